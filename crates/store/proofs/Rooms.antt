-- What putting does to the counts of a map.
use Rattle.std.proofs.Common.{◌≡◌, ℕ, ◌+◌, ◌<◌, ◌≤◌, false, not, ◌||◌, ltb, List, length, IfSome, Some, None, Option, sym, ap, ◌∙◌, subst, arith}
use Rattle.std.specs.Option.{option_map}
use Rattle.std.proofs.lemmas.Bool.{or_parts, ltb-false}
use Rattle.store.specs.Map.{Map, changed, one, size, count, total}
use Rattle.store.specs.Answer.{passes, count_after, total_after}
use Rattle.store.specs.Maps.{count_changed, total_changed, changed_here, changed_changed}

counts : (o : Option (List ℕ)) (c c' : ℕ) → c' + one o ≡ c + 1 → c' ≡ count_after c (option_map length o)
counts None c c' e = omega arith
counts (Some w) c c' e = omega arith

totals : (o : Option (List ℕ)) (s s' n : ℕ) → size o ≤ s → s' + size o ≡ s + n → s' ≡ total_after s (option_map length o) n
totals None s s' n l e = omega arith
totals (Some w) s s' n l e = omega arith

size_le_total : (m : Map) (t : ℕ) → t < 16777216 → size (m t) ≤ total m
size_le_total m t l = let a = total_changed m t None l in omega arith

held_le : (o : Option (List ℕ)) (s : ℕ) → size o ≤ s → IfSome (option_map length o) (λ l. l ≤ s)
held_le None s l = tt
held_le (Some w) s l = l

pub held_le_total : (m : Map) (t : ℕ) → t < 16777216 → IfSome (option_map length (m t)) (λ l. l ≤ total m)
held_le_total m t l = held_le (m t) (total m) (size_le_total m t l)

pub passes_after : (o b : ℕ) (m : Map) (t : ℕ) (v : List ℕ) → t < 16777216
    → passes o b (changed m t (Some v)) ≡ (ltb o (count_after (count m) (option_map length (m t))) || ltb b (total_after (total m) (option_map length (m t)) (length v)))
passes_after o b m t v l =
    let c : count (changed m t (Some v)) ≡ count_after (count m) (option_map length (m t)) =
    counts (m t) (count m) (count (changed m t (Some v))) (count_changed m t (Some v) l) in
    let s : total (changed m t (Some v)) ≡ total_after (total m) (option_map length (m t)) (length v) =
    totals (m t) (total m) (total (changed m t (Some v))) (length v) (size_le_total m t l) (total_changed m t (Some v) l) in
    cc

-- where v fits, there is room for it once its tag is dropped
pub room_left : (o b : ℕ) (m n : Map) (t : ℕ) (v : List ℕ) → t < 16777216 → n ≡ changed m t None
    → passes o b (changed m t (Some v)) ≡ false → (count n < o) × (total n + length v ≤ b)
room_left o b m n t v l e p =
    let q = or_parts (ltb o (count (changed m t (Some v)))) (ltb b (total (changed m t (Some v)))) p in
    let x = ltb-false o (count (changed m t (Some v))) q.0 in
    let y = ltb-false b (total (changed m t (Some v))) q.1 in
    let same : changed n t (Some v) ≡ changed m t (Some v) = ap (λ k. changed k t (Some v)) e ∙ changed_changed m t None (Some v) in
    let gone : n t ≡ None = ap (λ k. k t) e ∙ changed_here m t None in
    let a = count_changed n t (Some v) l in
    let b' = total_changed n t (Some v) l in
    let c = ap count same in
    let d = ap total same in
    let f = ap one gone in
    let g = ap size gone in
    (omega arith, omega arith)

-- the same, as a call of `room` asks it, of a held length h and a total s
pub held_le_as : (m : Map) (t : ℕ) (h : Option ℕ) (s : ℕ) → t < 16777216 → h ≡ option_map length (m t) → s ≡ total m
    → IfSome h (λ l. l ≤ s)
held_le_as m t h s l e f =
    let P : Option ℕ → Type 0 = λ o. IfSome o (λ k. k ≤ s) in
    let Q : ℕ → Type 0 = λ n. IfSome (option_map length (m t)) (λ k. k ≤ n) in
    subst P (sym e) (subst Q (sym f) (held_le_total m t l))

pub room_answer : (o b c s : ℕ) (h : Option ℕ) (m : Map) (t : ℕ) (v : List ℕ) → t < 16777216
    → h ≡ option_map length (m t) → c ≡ count m → s ≡ total m
    → not (ltb o (count_after c h) || ltb b (total_after s h (length v))) ≡ not (passes o b (changed m t (Some v)))
room_answer o b c s h m t v l e f g = let p = passes_after o b m t v l in cc
