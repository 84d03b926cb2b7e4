-- A command in the buffer against the run's definition. Assumes nothing.
use Rattle.std.proofs.Common.{◌≡◌, ℕ, ◌≤◌, ltb, List, length, take, drop, Ok, Err, Result, sym, refl, ap, ◌∙◌, arith}
use Rattle.std.proofs.lemmas.List.{take_at, drop_at, length-append, length-drop}
use Rattle.std.proofs.lemmas.Bool.{cond-false, le-ltb}
use Rattle.store.specs.Map.{Map}
use Rattle.commands.specs.declared.instruction.CommandFault.{CommandFault}
use Rattle.commands.specs.declared.instruction.CommandFault.TheVariants.{ShortBuffer}
use Rattle.commands.specs.Building.{roomy, told, written}
use Rattle.run.specs.Numbers.{list_cause}
use Rattle.run.specs.State.{Phase, awaits_options}
use Rattle.run.specs.Run.{Course, hands_out, fails, options_with}
use Rattle.stages.proofs.Cards.{not_error}

abbrev pub command_course : Phase → Map → Result (List ℕ) CommandFault → Course
command_course phase held (Err e) = fails (list_cause e) held
command_course phase held (Ok bs) = hands_out bs phase held

pub options_course_lem : (held : Map) (x : Result (List ℕ) CommandFault) → command_course awaits_options held x ≡ options_with held x
options_course_lem held (Err e) = refl
options_course_lem held (Ok bs) = refl

number_of : Result ℕ CommandFault → ℕ
number_of (Ok n) = n
number_of (Err e) = 0

fault_of : Result ℕ CommandFault → CommandFault
fault_of (Ok n) = ShortBuffer
fault_of (Err e) = e

pub enough : (len : ℕ) (x : Result (List ℕ) CommandFault) → 261 ≤ len → roomy len x ≡ x
enough len x h = cond-false (ltb len 261) (Err ShortBuffer) x (le-ltb len 261 h)

-- a command that is built stands at the front, and the rest stays
module _ (n : ℕ) (buf buf' : List ℕ) where
  pub built : (x : Result (List ℕ) CommandFault) (phase : Phase) (held : Map) → Ok n ≡ told x → buf' ≡ written x buf → hands_out (take n buf') phase held ≡ command_course phase held x
  unfolding number_of
  built (Ok bs) phase held e w = ap (λ l. hands_out l phase held) (ap (take n) w ∙ take_at bs (drop (length bs) buf) n (sym (ap number_of e)))
  built (Err f) phase held e w = absurd (not_error e)

  pub rest_built : (x : Result (List ℕ) CommandFault) → Ok n ≡ told x → buf' ≡ written x buf → drop n buf' ≡ drop n buf
  unfolding number_of
  rest_built (Ok bs) e w =
      let k : n ≡ length bs = ap number_of e in
      ap (drop n) w ∙ drop_at bs (drop (length bs) buf) n (sym k) ∙ ap (λ m. drop m buf) (sym k)
  rest_built (Err f) e w = absurd (not_error e)

  pub fits_built : (x : Result (List ℕ) CommandFault) → Ok n ≡ told x → buf' ≡ written x buf → length buf' ≡ length buf → n ≤ length buf
  unfolding number_of
  fits_built (Ok bs) e w same =
      let k : n ≡ length bs = ap number_of e in
      let whole = ap length w ∙ length-append bs (drop (length bs) buf) in
      let behind = length-drop (length bs) buf in
      omega arith
  fits_built (Err f) e w same = absurd (not_error e)

-- one that is not leaves all of it
module _ (f : CommandFault) (buf buf' : List ℕ) where
  pub unbuilt : (x : Result (List ℕ) CommandFault) (phase : Phase) (held : Map) → Err f ≡ told x → fails (list_cause f) held ≡ command_course phase held x
  unfolding fault_of
  unbuilt (Ok bs) phase held e = absurd (not_error (sym e))
  unbuilt (Err y) phase held e = ap (λ z. fails (list_cause z) held) (ap fault_of e)

  pub rest_unbuilt : (x : Result (List ℕ) CommandFault) → Err f ≡ told x → buf' ≡ written x buf → buf' ≡ buf
  rest_unbuilt (Ok bs) e w = absurd (not_error (sym e))
  rest_unbuilt (Err y) e w = w
