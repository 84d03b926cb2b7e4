use Rattle.std.proofs.Common.{◌+◌, [], ◌∷◌, length, get_or, take, drop, set, sym, ap, ◌∙◌, subst, ap₂, arith}
use Rattle.std.proofs.lemmas.List.{length-set, get_or-set_same, take-set-le, drop-set-lt, drop-drop}
use Rattle.reader.specs.Meanings.{meaning}
use Rattle.isolation.specs.declared.call.Call.TheVariants.{Write}
use Rattle.isolation.specs.declared.call.Asked.{Asked}
use Rattle.isolation.specs.Asked.{asks, latest}
use Rattle.isolation.specs.Beside.{Went}
use Rattle.isolation.proofs.Going.{went_on, latest_more}
use Rattle.isolation.proofs.beside.play_all.Goals as goal

pub loop-i-preserved : goal.loop-i-preserved
loop-i-preserved g c =
    let xs = c.args.calls.now in
    let rs = c.loop-i.replies in
    let i = c.loop-i.i in
    let r = c.ask.result in
    let b = length c.args.buffer.now in
    let w = length c.args.list.now in
    let d : Asked = record { call = Write (record { ref_ptr = (0, 0); now = [] }); buffer = 0; list = 0 } in
    let a = meaning g.S.ReadStore c.ask.new.reader in (
      λ config went.
          let on = went_on config _ _ _ _ _ _ c.ask.ensures (c.loop-i.invariant.0 config went) in
          subst (λ ys. Went config ys (latest (λ x. x) (take (i + 1) (set rs i r)) []) a)
          (ap₂ (λ n m. asks n m (get_or xs i d) ∷ latest (asks b w) (take i xs) []) c.loop-i.auto.buffer c.loop-i.auto.list ∙ sym (latest_more (asks b w) xs i d [] (omega arith)))
          (subst (λ ys. Went config (asks (length c.loop-i.buffer) (length c.loop-i.list) (get_or xs i d) ∷ latest (asks b w) (take i xs) []) ys a)
          (sym (latest_more (λ x. x) (set rs i r) i r [] (omega (arith, length-set rs i r)) ∙ ap₂ (λ y ys. y ∷ latest (λ x. x) ys []) (get_or-set_same rs i r r (omega arith)) (take-set-le i rs i r (omega arith))))
          on),
      drop-set-lt (i + 1) rs i r (omega arith) ∙ sym (drop-drop 1 i rs) ∙ ap (drop 1) c.loop-i.invariant.1 ∙ drop-drop 1 i c.args.replies.now,
    )
