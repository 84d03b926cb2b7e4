use Rattle.std.proofs.Common.{◌≡◌, ℕ, Bool, true, false, cond, not, ◌||◌, eqb, ltb, IfOk, Ok, Err, Result, refl, arith, eqb-true}
use Rattle.store.specs.Map.{Map, Kept, empty, count}
use Rattle.store.specs.Maps.{same_map}
use Rattle.keeping.specs.declared.refusal.StoreRefusal.{StoreRefusal}
use Rattle.keeping.specs.declared.refusal.StoreRefusal.TheVariants.{HoldsObjects, TooSmall}
use Rattle.keeping.specs.declared.shares.Shares.{Shares}
use Rattle.keeping.specs.Room.{needed_objects, needed_bytes}
use Rattle.keeping.specs.Opening.{admit_answer}
use Rattle.keeping.proofs.Rooms.{none_held}
use Rattle.reader.proofs.reader.opening.admitted.Goals as goal

-- a store that serves holds nothing
nothing_held : (s : Shares) (o b : ℕ) (m : Map) (r : Result (Unit {0}) StoreRefusal) → Kept m o b → r ≡ admit_answer s o b (count m) → IfOk r (λ _. m ≡ empty)
nothing_held s o b m (Err e) kept is = tt
nothing_held s o b m (Ok x) kept is = by (eqb (count m) 0) refl is
  where
    by : (v : Bool) → eqb (count m) 0 ≡ v → Ok x ≡ cond (not v) (Err HoldsObjects) (cond (ltb o needed_objects || ltb b (needed_bytes s)) (Err TooSmall) (Ok tt)) → m ≡ empty
    by true e h = same_map m empty (none_held m o b kept (eqb-true (count m) 0 e))
    by false e h = absurd (let z : ◌≡◌ {A = ℕ} 0 1 = cc in omega arith)

pub returns : goal.returns
returns g c = record {
  answer = c.admit.ensures.answer;
  roomy = c.admit.ensures.roomy;
  nothing = nothing_held c.args.shares.now (g.S.ReadStore.objects c.args.store.now) (g.S.ReadStore.bytes c.args.store.now) (g.S.ReadStore.held c.args.store.now) c.admit.result (g.S.ReadStore.kept c.args.store.now) c.admit.ensures.answer;
}
