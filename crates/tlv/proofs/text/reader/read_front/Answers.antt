use Rattle.std.proofs.Common.{◌≡◌, ℕ, ◌≤◌, List, ◌++◌, length, IfOk, Ok, Err, Result, refl, ap, ◌∙◌, arith, rules}
use Rattle.std.proofs.lemmas.List.{take-append-le}
use Rattle.tlv.specs.declared.place.Place.{Place}
use Rattle.tlv.specs.declared.fault.TextFault.{TextFault}
use Rattle.tlv.specs.Series.{found}
use Rattle.tlv.specs.Told.{counted}
use Rattle.tlv.proofs.Exactness.{exact}
use Rattle.tlv.proofs.text.reader.read_front.Goals as goal

-- what stands behind the first 64 places is not told of
behind : (r : Result ℕ TextFault) (xs ys : List Place) → IfOk r (λ n. n ≤ 64) → length xs ≡ 64 → counted r (xs ++ ys) ≡ counted r xs
behind (Ok n) xs ys h l = ap found (take-append-le n xs ys (omega arith))
behind (Err f) xs ys h l = refl

pub returns : goal.returns
returns c = record {
  read = behind c.read_places.result c.read_places.new.memory _ c.read_places.ensures.within (search rules) ∙ c.read_places.ensures.read;
  within = c.read_places.ensures.within;
  exact = exact c.args.text.now;
}
