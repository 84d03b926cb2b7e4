use Rattle.std.proofs.Common.{◌+◌, get_or, drop, sym, ap, ◌∙◌, subst}
use Rattle.store.specs.Map.{Map}
use Rattle.keeping.specs.Keeping.{stored, stored_one}
use Rattle.keeping.specs.Steps.{Fresh}
use Rattle.keeping.proofs.Keepings.{blank, stored_more, fresh_more, holds_so_far}
use Rattle.keeping.proofs.keep.put_places.Goals as goal

pub loop-place-preserved : goal.loop-place-preserved
loop-place-preserved g c =
    let inv = c.loop-place.invariant in
    let text = c.args.text.now in
    let ps = c.args.places.now in
    let i = c.loop-place.place-index in
    let m = g.S.ReadStore.held c.loop-place.store in
    let F : Map → Type 0 = λ n. Fresh text (drop (i + 1) ps) n in (
      (λ p.
          let q = inv.0 p in
          let f = fresh_more text ps i _ c.loop-place-test.true m q.1 in
          let e = sym (stored_more text ps i _ c.loop-place-test.true m) ∙ q.0 in
          let after = c.put_one.ensures.after f.0 (holds_so_far text (drop (i + 1) ps) (stored_one text m (get_or ps i blank)) _ _ _ _ _ f.1 e p.room inv.1 inv.2) in
          (ap (stored text (drop (i + 1) ps)) after ∙ e, subst F (sym after) f.1)),
      c.put_one.ensures.limits.0 ∙ inv.1,
      c.put_one.ensures.limits.1 ∙ inv.2,
    )
