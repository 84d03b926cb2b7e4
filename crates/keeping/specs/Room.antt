-- The room that opening gives: what holds of the store from opening on, so that no put is refused.
use Rattle.std.specs.Prelude.{◌≡◌, ℕ, ◌+◌, ◌≤◌, Bool, cond, ◌||◌, None, ◌==◌}
use Rattle.dictionary.specs.Dictionary.{entry_of}
use Rattle.store.specs.Map.{Map, size}
use Rattle.judge.specs.declared.kind.TextKind.{TextKind}
use Rattle.keeping.specs.declared.shares.Shares.{Shares}
use Rattle.keeping.specs.Shares.{writer_total, share_of}

-- the tags of the reader's own two objects: Terminal Verification Results, and Error Indication
abbrev pub verification_results : ℕ
verification_results = 0x95

abbrev pub error_indication : ℕ
error_indication = 0xDF_8115

-- a tag of one of the two
abbrev pub reader_tag : ℕ → Bool
reader_tag t = t == verification_results || t == error_indication

-- how many bytes the two have
abbrev pub reader_length : ℕ → ℕ
reader_length t = cond (t == verification_results) 5 (cond (t == error_indication) 6 0)

-- the bytes that are the reader's
abbrev pub reader_share : ℕ
reader_share = 16

-- the value bytes that a store needs: all shares and the reader's
abbrev pub needed_bytes : Shares → ℕ
needed_bytes s = s.configuration + s.terminal + s.card + reader_share

-- the objects that it needs
abbrev pub needed_objects : ℕ
needed_objects = 64

-- Only known tags are held, each writer is within its share and the reader's own objects are no longer than they may
-- be, and the store has the objects and the bytes that it needs.
pub record Roomy (s : Shares) (objects bytes : ℕ) (m : Map) : Type 0 where
  pub known : (t : ℕ) → entry_of t ≡ None → m t ≡ None
  pub within : (k : TextKind) → writer_total k m ≤ share_of s k
  pub verification : size (m verification_results) ≤ 5
  pub indication : size (m error_indication) ≤ 6
  pub slots : needed_objects ≤ objects
  pub space : needed_bytes s ≤ bytes
