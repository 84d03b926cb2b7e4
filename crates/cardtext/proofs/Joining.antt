-- Parts that are appended one after the other.
use Rattle.std.proofs.Common.{◌≡◌, ℕ, false, cond, List, [], ◌∷◌, ◌++◌, length, is_ok, IfOk, Some, None, Ok, Err, codes, Option, Result, sym, refl, ap, ◌∙◌, append_assoc}
use Rattle.dictionary.specs.declared.entry.Entry.{Entry}
use Rattle.tlv.specs.declared.place.Place.{Place}
use Rattle.tlv.specs.Series.{Reading, found, meaning, most_objects}
use Rattle.tlv.specs.Told.{reading}
use Rattle.judge.specs.declared.kind.TextKind.TheVariants.{Configuration, TerminalWrite, CardAnswer}
use Rattle.cardtext.specs.Report.{object_lines, count_line, taking_line, with_takings, reading_lines}
use Rattle.cardtext.specs.Words.{words_of, with_entry}

-- a, and then b
pub then : (before between a b : List ℕ) {after : List ℕ} → between ≡ before ++ a → after ≡ between ++ b → after ≡ before ++ (a ++ b)
then before between a b p q = q ∙ ap (λ xs. xs ++ b) p ∙ append_assoc before a b

-- f, behind five parts that were appended as one
pub fifth : (before a b c d e f : List ℕ) {between after : List ℕ} → between ≡ before ++ (a ++ (b ++ (c ++ (d ++ e)))) → after ≡ between ++ f → after ≡ before ++ (a ++ (b ++ (c ++ (d ++ (e ++ f)))))
fifth before a b c d e f p q = q ∙ ap (λ xs. xs ++ f) p ∙ simp append_assoc

-- the last part, if there was memory for it
pub last : {X Y : Type 0} (r : Result X Y) (before a : List ℕ) {after : List ℕ} → after ≡ cond (is_ok r) (before ++ a) before → IfOk r (λ _. after ≡ before ++ a)
last (Ok x) before a p = p
last (Err y) before a p = tt

-- what holds anyway
pub always : {X Y : Type 0} (r : Result X Y) {P : Type 0} → P → IfOk r (λ _. P)
always (Ok x) p = p
always (Err y) p = tt

-- what the dictionary has of a tag stands behind what is there
pub entry_behind : (out : List ℕ) (e : Option Entry) (n : Option (List ℕ)) → with_entry out e n ≡ out ++ with_entry [] e n
entry_behind out None n = refl
entry_behind out (Some e) None = refl
entry_behind out (Some e) (Some n) =
    ap (λ xs. xs ++ words_of e.writer) (append_assoc out n (44 ∷ 32 ∷ [])) ∙ append_assoc out (n ++ 44 ∷ 32 ∷ []) (words_of e.writer)

-- the three lines stand behind what is there
pub takings_behind : (out : List ℕ) (room : ℕ) (text : List ℕ) → with_takings out room text ≡ out ++ with_takings [] room text
takings_behind out room text =
    let a = taking_line (codes "configuration") room Configuration text in
    let b = taking_line (codes "terminal") room (TerminalWrite false) text in
    let d = taking_line (codes "card") room CardAnswer text in
    ap (λ xs. xs ++ d) (append_assoc out a b) ∙ append_assoc out (a ++ b) d

-- what is printed of a text that was read
pub read_well :
    (text before between : List ℕ) (ps : List Place) (room : ℕ) {after : List ℕ} → meaning text ≡ found ps → room ≡ most_objects →
    between ≡ before ++ (object_lines text ps ++ count_line (length ps)) → after ≡ with_takings between room text →
    after ≡ before ++ reading_lines text (meaning text)
read_well text before between ps room m e p q =
    let lines = object_lines text ps in
    let count = count_line (length ps) in
    let takings = with_takings [] most_objects text in
    q ∙ ap (λ n. with_takings between n text) e ∙ takings_behind between most_objects text
    ∙ ap (λ xs. xs ++ takings) p ∙ append_assoc before (lines ++ count) takings
    ∙ ap (λ xs. before ++ xs) (append_assoc lines count takings)
    ∙ ap (λ r. before ++ reading_lines text r) (sym m)

-- a reading is the one that is answered
pub same_reading : (x y : Reading) → reading x ≡ reading y → y ≡ x
same_reading x y e = cc
