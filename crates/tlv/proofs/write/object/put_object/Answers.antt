use Rattle.std.proofs.Common.{◌≡◌, ℕ, ◌-◌, List, length, take, drop, sym, ap, ◌∙◌, arith, length-drop}
use Rattle.std.proofs.lemmas.List.{take_all}
use Rattle.tlv.proofs.Heads.{length1, length2}
use Rattle.tlv.proofs.Writing.{put_parts}
use Rattle.tlv.proofs.write.object.put_object.Goals as goal

behind : (k : ℕ) (xs ys bs : List ℕ) → length xs ≡ 4 → xs ≡ ys → drop k ys ≡ bs → take (4 - k) (drop k xs) ≡ bs
behind k xs ys bs four same e =
    let l = length-drop k xs in take_all (4 - k) (drop k xs) (omega (arith, l, four)) ∙ ap (drop k) same ∙ e

pub returns-then-n-lt128 : goal.returns-then-n-lt128
returns-then-n-lt128 c =
    let said = c.put_front.ensures in
    let four : length c.to_be_bytes-bytes.result ≡ 4 = ap length c.to_be_bytes-bytes.ensures in
    let p = put_parts c.args.tag _ _ c.args.value.now c.args.out.now c.put_front.new.out c.put_front.result c.requires.tag c.requires.short (behind _ _ _ _ four c.to_be_bytes-bytes.ensures c.first_place.ensures.place) (sym (length1 _ c.if-n-lt128.true)) said.answer said.written said.refused in
    record { answer = p.answer; after = p.after; back = p.back }

pub returns-else-n-lt128 : goal.returns-else-n-lt128
returns-else-n-lt128 c =
    let said = c.put_front-else-n-lt128.ensures in
    let four : length c.to_be_bytes-bytes.result ≡ 4 = ap length c.to_be_bytes-bytes.ensures in
    let p = put_parts c.args.tag _ _ c.args.value.now c.args.out.now c.put_front-else-n-lt128.new.out c.put_front-else-n-lt128.result c.requires.tag c.requires.short (behind _ _ _ _ four c.to_be_bytes-bytes.ensures c.first_place.ensures.place) (sym (length2 _ c.if-n-lt128.false)) said.answer said.written said.refused in
    record { answer = p.answer; after = p.after; back = p.back }
