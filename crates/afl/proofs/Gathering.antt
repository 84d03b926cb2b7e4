-- Adding the records of a locator one after the other. Assumes nothing.
use Rattle.std.proofs.Common.{◌≡◌, ℕ, suc, ◌+◌, ◌-◌, ◌/◌, ◌<◌, ◌≤◌, Bool, true, false, cond, List, [], ◌∷◌, ◌++◌, length, get_or, take, drop, is_ok, is_err, Some, None, Ok, Err, Option, Result, sym, refl, ap, ◌∙◌, arith}
use Rattle.keyed.specs.declared.record.Record.{Record}
use Rattle.keyed.specs.declared.list.NotAdded.{NotAdded}
use Rattle.keyed.specs.Elements.{answer}
use Rattle.keyed.specs.Records.{record_same}
use Rattle.std.proofs.lemmas.List.{take_rest}
use Rattle.std.proofs.lemmas.Bool.{false≢true, true≢false}
use Rattle.afl.specs.declared.locator.Span.{Span}
use Rattle.afl.specs.declared.locator.AflFault.{AflFault}
use Rattle.afl.specs.Afl.{good, record_at, run}
use Rattle.afl.specs.Steps.{span_of, run_of, on_added, gather, then, afl_from, told}

module _ (room : ℕ) (held : List Record) (s n e : ℕ) (h : n < e) where
  step : gather room held (run s n (e - n)) ≡ on_added (answer record_same room held (record_at s n)) (gather room (held ++ record_at s n ∷ []) (run s (n + 1) (e - (n + 1))))
  step = let k : e - n ≡ suc (e - (n + 1)) = omega arith in ap (λ x. gather room held (run s n x)) k

  pub added : answer record_same room held (record_at s n) ≡ Ok tt → gather room (held ++ record_at s n ∷ []) (run s (n + 1) (e - (n + 1))) ≡ gather room held (run s n (e - n))
  added a = sym (step ∙ ap (λ x. on_added x (gather room (held ++ record_at s n ∷ []) (run s (n + 1) (e - (n + 1))))) a)

  pub stopped : is_err (answer record_same room held (record_at s n)) ≡ true → None ≡ gather room held (run s n (e - n))
  stopped ne = sym (step ∙ by (answer record_same room held (record_at s n)) ne)
    where
      by : (a : Result (Unit {0}) NotAdded) → (is_err a ≡ true) → on_added a (gather room (held ++ record_at s n ∷ []) (run s (n + 1) (e - (n + 1)))) ≡ None
      by (Ok _) f = absurd (false≢true f)
      by (Err _) f = refl

pub ended : (room : ℕ) (held : List Record) (s n e : ℕ) → e ≤ n → Some held ≡ gather room held (run s n (e - n))
ended room held s n e h = let k : e - n ≡ 0 = omega arith in sym (ap (λ x. gather room held (run s n x)) k)

-- the next entry of a locator
module _ (room : ℕ) (held : List Record) (xs : List ℕ) (h : 4 ≤ length xs) where
  abbrev pub after : List ℕ
  after = take (length xs - 4) (drop 4 xs)

  four : (ys : List ℕ) → 4 ≤ length ys → afl_from room held ys
      ≡ cond (good (get_or ys 0 0) (get_or ys 1 0) (get_or ys 2 0) (get_or ys 3 0)) (then (gather room held (run (get_or ys 0 0 / 8) (get_or ys 1 0) (get_or ys 2 0 + 1 - get_or ys 1 0))) (λ held'. afl_from room held' (drop 4 ys))) None
  four [] l = absurd (omega arith)
  four (f ∷ []) l = absurd (omega arith)
  four (f ∷ a ∷ []) l = absurd (omega arith)
  four (f ∷ a ∷ z ∷ []) l = absurd (omega arith)
  four (f ∷ a ∷ z ∷ n ∷ bs) l = refl

  fit : afl_from room held xs
      ≡ cond (good (get_or xs 0 0) (get_or xs 1 0) (get_or xs 2 0) (get_or xs 3 0)) (then (gather room held (run (get_or xs 0 0 / 8) (get_or xs 1 0) (get_or xs 2 0 + 1 - get_or xs 1 0))) (λ held'. afl_from room held' after)) None
  fit = rw (take_rest xs 4) (four xs h)

  bad : (b : Bool) (p : Span) (next : Option (List Record)) → None ≡ cond b (Some p) None → cond b next None ≡ None
  bad true p next e = let z : ◌≡◌ {A = ℕ} 0 1 = cc in absurd (omega arith)
  bad false p next e = refl

  pub no_span : None ≡ span_of (get_or xs 0 0) (get_or xs 1 0) (get_or xs 2 0) (get_or xs 3 0) → None ≡ afl_from room held xs
  no_span e = sym (fit ∙ bad (good (get_or xs 0 0) (get_or xs 1 0) (get_or xs 2 0) (get_or xs 3 0)) _ _ e)

  well : (b : Bool) (p q : Span) (F : Span → Option (List Record)) → Some p ≡ cond b (Some q) None → cond b (F q) None ≡ F p
  well true p q F e = let same : p ≡ q = cc in sym (ap F same)
  well false p q F e = let z : ◌≡◌ {A = ℕ} 0 1 = cc in absurd (omega arith)

  span : (p : Span) → Some p ≡ span_of (get_or xs 0 0) (get_or xs 1 0) (get_or xs 2 0) (get_or xs 3 0) → afl_from room held xs ≡ then (gather room held (run_of p)) (λ held'. afl_from room held' after)
  span p e =
      fit
      ∙ well (good (get_or xs 0 0) (get_or xs 1 0) (get_or xs 2 0) (get_or xs 3 0)) p (record { sfi = get_or xs 0 0 / 8; first = get_or xs 1 0; last = get_or xs 2 0 }) (λ q. then (gather room held (run_of q)) (λ held'. afl_from room held' after)) e

  pub span_stops : (p : Span) → Some p ≡ span_of (get_or xs 0 0) (get_or xs 1 0) (get_or xs 2 0) (get_or xs 3 0) → None ≡ gather room held (run_of p) → None ≡ afl_from room held xs
  span_stops p e g = sym (span p e ∙ ap (λ o. then o (λ held'. afl_from room held' after)) (sym g))

  pub span_goes_on : (p : Span) (more : List Record) → Some p ≡ span_of (get_or xs 0 0) (get_or xs 1 0) (get_or xs 2 0) (get_or xs 3 0) → Some more ≡ gather room held (run_of p)
      → afl_from room more after ≡ afl_from room held xs
  span_goes_on p more e g = sym (span p e ∙ ap (λ o. then o (λ held'. afl_from room held' after)) (sym g))

pub err_told : (r : Result (Unit {0}) AflFault) (xs : List Record) → is_err r ≡ true → told r xs ≡ None
err_told (Ok x) xs e = absurd (false≢true e)
err_told (Err b) xs e = refl

pub some_of : (xs ys : List Record) (o : Option (List Record)) → xs ≡ ys → Some ys ≡ o → Some xs ≡ o
some_of xs ys o e f = ap Some e ∙ f

-- whether a record was added, by what is told of it
pub was_added : (r : Result (Unit {0}) NotAdded) → is_ok r ≡ true → r ≡ Ok tt
was_added (Ok x) e = refl
was_added (Err f) e = absurd (false≢true e)

pub not_added : (r : Result (Unit {0}) NotAdded) → is_ok r ≡ false → is_err r ≡ true
not_added (Ok x) e = absurd (true≢false e)
not_added (Err f) e = refl
