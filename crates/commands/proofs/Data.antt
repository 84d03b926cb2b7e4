-- What the size of a list says of its data, and the value that a store copies out.
use Rattle.std.proofs.Common.{◌≡◌, ℕ, ◌-◌, ◌≤◌, Bool, true, false, cond, ltb, leb, List, ◌++◌, length, take, drop, Some, None, Ok, Err, Option, Result, sym, refl, ap, ◌∙◌, arith}
use Rattle.std.proofs.lemmas.List.{take_at}
use Rattle.std.proofs.lemmas.Bool.{cond-true, le-leb, leb-true}
use Rattle.store.specs.Map.{Map}
use Rattle.store.specs.declared.reading.NotCopied.{NotCopied}
use Rattle.store.specs.declared.reading.NotCopied.TheVariants.{Short}
use Rattle.store.specs.Answer.{copy_answer, copy_after}
use Rattle.dol.specs.declared.size.DolFault.{DolFault}
use Rattle.dol.specs.Dol.{Asked, entries, total, data_of, within, dol_data, size_of}
use Rattle.dol.proofs.Lawful.{length_data}
use Rattle.commands.specs.Commands.{bytes}

-- a list of n bytes of data, under a limit
pub record Data (held : Map) (limit n : ℕ) (dol : List ℕ) : Type 0 where
  pub data_bytes : List ℕ
  pub under_limit : dol_data held limit dol ≡ Some data_bytes
  pub exactly : dol_data held n dol ≡ Some data_bytes
  pub long : length data_bytes ≡ n
  pub most : n ≤ limit
  pub sized : size_of n (entries dol) ≡ Ok n

pub with_data : (held : Map) (limit n : ℕ) (dol : List ℕ) → Ok n ≡ size_of limit (entries dol) → Data held limit n dol
unfolding dol_data
with_data held limit n dol e = by (entries dol) refl e
  where
    make : (es : List Asked) (b : Bool) → leb (total es) limit ≡ b → entries dol ≡ Some es → Ok n ≡ cond {A = Result ℕ DolFault} b (Ok (total es)) (Err (record {})) → Data held limit n dol
    make es true t is q =
        let same : n ≡ total es = cc in
        let fits : leb (total es) n ≡ true = le-leb (total es) n (omega (arith, same)) in
        record {
          data_bytes = data_of held es;
          under_limit = ap (within held limit) is ∙ cond-true (leb (total es) limit) (Some (data_of held es)) None t;
          exactly = ap (within held n) is ∙ cond-true (leb (total es) n) (Some (data_of held es)) None fits;
          long = length_data held es ∙ sym same;
          most = omega (arith, same, leb-true (total es) limit t);
          sized = ap (size_of n) is ∙ cond-true (leb (total es) n) (Ok (total es)) (Err (record {})) fits ∙ ap Ok (sym same);
        }
    make es false t is q = let z : ◌≡◌ {A = ℕ} 0 1 = cc in absurd (omega arith)

    by : (o : Option (List Asked)) → entries dol ≡ o → Ok n ≡ size_of limit o → Data held limit n dol
    by None is q = let z : ◌≡◌ {A = ℕ} 0 1 = cc in absurd (omega arith)
    by (Some es) is q = make es (leb (total es) limit) refl is q

-- a faulty list has none
pub without_data : (held : Map) (limit : ℕ) (dol : List ℕ) (f : DolFault) → Err f ≡ size_of limit (entries dol) → dol_data held limit dol ≡ None
unfolding dol_data
without_data held limit dol f e = by (entries dol) e
  where
    by_test : (es : List Asked) (b : Bool) → Err f ≡ cond {A = Result ℕ DolFault} b (Ok (total es)) (Err (record {})) → cond {A = Option (List ℕ)} b (Some (data_of held es)) None ≡ None
    by_test es true q = let z : ◌≡◌ {A = ℕ} 0 1 = cc in absurd (omega arith)
    by_test es false q = refl

    by : (o : Option (List Asked)) → Err f ≡ size_of limit o → within held limit o ≡ None
    by None q = refl
    by (Some es) q = by_test es (leb (total es) limit) q

-- what is copied out is the value
pub value_is : (o : Option (List ℕ)) (buf out : List ℕ) (n : ℕ) → Ok n ≡ copy_answer o (length buf) → out ≡ copy_after o buf → take (n - 0) out ≡ bytes o
value_is None buf out n a e = let z : ◌≡◌ {A = ℕ} 0 1 = cc in absurd (omega arith)
value_is (Some v) buf out n a e = by (ltb (length buf) (length v)) a e
  where
    by : (b : Bool) → Ok n ≡ cond {A = Result ℕ NotCopied} b (Err Short) (Ok (length v)) → out ≡ cond b buf (v ++ drop (length v) buf) → take (n - 0) out ≡ v
    by true q c = let z : ◌≡◌ {A = ℕ} 0 1 = cc in absurd (omega arith)
    by false q c =
        let same : n ≡ length v = cc in
        ap (take (n - 0)) c ∙ take_at v (drop (length v) buf) (n - 0) (omega (arith, same))
