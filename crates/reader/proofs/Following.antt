-- Where a course leads, whatever was held before it, and what a command leaves in its buffer.
use Rattle.std.proofs.Common.{◌≡◌, ℕ, ◌+◌, ◌<◌, ◌≤◌, List, ◌++◌, length, take, drop, sym, ap, ◌∙◌, ⊎_elim, append-nil, arith, take-append-drop}
use Rattle.std.proofs.lemmas.List.{length-take-le, length-drop, take_all, drop_all}
use Rattle.std.proofs.lemmas.Bool.{cases_lt}
use Rattle.store.specs.Map.{Map}
use Rattle.run.specs.State.{Meaning, Limits, Phase}
use Rattle.keyed.specs.declared.record.Record.{Record as File}

-- a course has the map that is held then, so what was held before does not matter
abbrev moved : Meaning → Limits → Map → Phase → Meaning
moved m l h p = record { opened = m.opened; limits = l; shares = m.shares; held = h; begun = m.begun; phase = p; count = m.count }

-- a command at the front, and what stood behind it
front : (n : ℕ) (b b' : List ℕ) → length b' ≡ length b → drop n b' ≡ drop n b → b' ≡ take n b' ++ drop (length (take n b')) b
front n b b' same rest =
    ⊎_elim
    (λ less. let l = length-take-le n b' (omega arith) in
    sym (take-append-drop n b') ∙ ap (λ xs. take n b' ++ xs) (rest ∙ ap (λ k. drop k b) (sym l)))
    (λ more. let whole = take_all n b' more in
    sym (append-nil b')
    ∙ ap (λ xs. b' ++ xs) (sym (drop_all (length b') b (omega arith)))
    ∙ ap (λ xs. xs ++ drop (length xs) b) (sym whole))
    (cases_lt n (length b'))

-- how many are left, if any
pub left_behind : (i n k : ℕ) (rs : List File) → n ≤ length rs → k ≡ length (drop (i + 1) (take n rs)) → 0 < k → i + 1 < n
left_behind i n k rs within same some =
    let l = length-take-le n rs within in
    let d = length-drop (i + 1) (take n rs) in
    omega arith
