-- What each refusal tells: its number, and the kind and place of its fault.
use Rattle.std.specs.Prelude.{ℕ}
use Rattle.tlv.specs.Objects.{fault_number}
use Rattle.readout.specs.declared.refusal.ReadoutRefusal.{ReadoutRefusal}
use Rattle.readout.specs.declared.refusal.ReadoutRefusal.TheVariants.{Short, Fault, NotHeld}

-- number, kind and place; kind and place are 0 where there is no fault
pub record Told : Type 0 where
  pub number : ℕ
  pub kind : ℕ
  pub place : ℕ

-- the numbers of each refusal
abbrev pub told : ReadoutRefusal → Told
told Short = record { number = 2; kind = 0; place = 0 }
told (Fault f) = record { number = 5; kind = fault_number f.kind; place = f.at }
told NotHeld = record { number = 12; kind = 0; place = 0 }

abbrev pub refusal_number : ReadoutRefusal → ℕ
refusal_number e = (told e).number

abbrev pub refusal_kind : ReadoutRefusal → ℕ
refusal_kind e = (told e).kind

abbrev pub refusal_place : ReadoutRefusal → ℕ
refusal_place e = (told e).place
