use Rattle.std.proofs.Common.{◌≡◌, ℕ, ◌+◌, ◌-◌, ◌≤◌, List, length, take, drop, sym, ap, ◌∙◌, subst, arith}
use Rattle.std.proofs.lemmas.List.{length-drop, take_all}
use Rattle.entries.specs.Entries.{Entry}
use Rattle.strip.specs.Strip.{entries, front_length}
use Rattle.strip.proofs.Walks.{Walk, walk_within, walk_front, walk_on, walk_end, spot_at}
use Rattle.strip.proofs.strip.Strip.find.Goals as goal

pub overflow_sub-at : goal.overflow_sub-at
overflow_sub-at c =
    let s = c.args.self.now in
    let w = walk_within (take s.used s.area.now) (entries s.count (take s.used s.area.now)) c.args.tag.value c.loop-head.rest.now s.ok.4.0 c.loop-head.invariant in
    omega (arith, ap length c.text-text.ensures)

pub returns-then-head-number : goal.returns-then-head-number
returns-then-head-number c =
    let s = c.args.self.now in
    let rest = c.loop-head.rest.now in
    let bs : List ℕ = take s.used s.area.now in
    let es : List Entry = entries s.count (take s.used s.area.now) in
    let h = c.in-Some.ensures in
    let k = walk_front es c.args.tag.value rest s.ok.4.1 h.0 c.loop-head.invariant in
    spot_at bs es c.args.tag.value (length c.text-text.result.now - length rest) c.in-Some.head.len rest s.ok.4.0 s.ok.4.1 k
    (sym h.1 ∙ c.if-head-number.true ∙ c.number.ensures) (ap (λ xs. length xs - length rest) c.text-text.ensures) h.2

-- the value lies in what is left
inside : (rest r : List ℕ) (n : ℕ) → 5 + front_length rest ≤ length rest → n ≡ front_length rest → r ≡ drop 5 rest → n ≤ length r
inside rest r n h e f = omega (arith, ap length f, length-drop 5 rest)

pub slice_bounds-rest-count : goal.slice_bounds-rest-count
slice_bounds-rest-count c =
    let s = c.args.self.now in
    let rest = c.loop-head.rest.now in
    let h = c.in-Some.ensures in
    let k = walk_front (entries s.count (take s.used s.area.now)) c.args.tag.value rest s.ok.4.1 h.0 c.loop-head.invariant in
    inside rest c.in-Some.head.rest.now c.in-Some.head.len k.room h.2 h.3

pub slice_bounds-rest-start : goal.slice_bounds-rest-start
slice_bounds-rest-start c =
    let s = c.args.self.now in
    let rest = c.loop-head.rest.now in
    let h = c.in-Some.ensures in
    let k = walk_front (entries s.count (take s.used s.area.now)) c.args.tag.value rest s.ok.4.1 h.0 c.loop-head.invariant in
    inside rest c.in-Some.head.rest.now c.in-Some.head.len k.room h.2 h.3

behind : (rest r : List ℕ) (n : ℕ) → n ≡ front_length rest → r ≡ drop 5 rest
    → drop (front_length rest) (drop 5 rest) ≡ take (length r - n) (drop n r)
behind rest r n e f =
    ap (λ k. drop k (drop 5 rest)) (sym e) ∙ ap (drop n) (sym f)
    ∙ sym (take_all (length r - n) (drop n r) (omega (arith, length-drop n r)))

pub loop-head-preserved : goal.loop-head-preserved
loop-head-preserved c =
    let s = c.args.self.now in
    let rest = c.loop-head.rest.now in
    let es : List Entry = entries s.count (take s.used s.area.now) in
    let h = c.in-Some.ensures in
    let k = walk_front es c.args.tag.value rest s.ok.4.1 h.0 c.loop-head.invariant in
    subst (Walk es c.args.tag.value) (behind rest c.in-Some.head.rest.now c.in-Some.head.len h.2 h.3)
    (walk_on es c.args.tag.value rest k (λ e. c.if-head-number.false (h.1 ∙ e ∙ sym c.number.ensures)))

pub returns : goal.returns
returns c =
    let s = c.args.self.now in
    walk_end (entries s.count (take s.used s.area.now)) c.args.tag.value c.loop-head.rest.now c.in_default.ensures c.loop-head.invariant
