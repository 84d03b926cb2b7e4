-- A command with a list's data in its middle.
use Rattle.std.proofs.Common.{◌≡◌, ℕ, ◌+◌, ◌-◌, ◌<◌, List, [], ◌∷◌, ◌++◌, length, get_or, take, drop, set, Some, None, Ok, Err, sym, ap, ◌∙◌, append_assoc, append-nil, arith, length-append, length-drop}
use borrow.Rule.Slice.PartMut.{put_mid, post_of}
use Rattle.std.proofs.lemmas.List.{take_at, drop_at, drop_all, drop-drop, drop_more, set_at, nil_from_length}
use Rattle.std.proofs.lemmas.List.Edits.{length-between}
use Rattle.store.specs.Map.{Map}
use Rattle.dol.specs.Dol.{entries, dol_data, size_of, filled}
use Rattle.commands.specs.declared.instruction.CommandFault.{CommandFault}
use Rattle.commands.specs.Commands.{on_data}
use Rattle.commands.specs.Building.{told, written, framed}
use Rattle.commands.proofs.Data.{with_data}

-- `y` in front, `ds` behind it, and then '00'
frame : (h n : ℕ) (buf y ds : List ℕ) → length y ≡ h → length ds ≡ n → h + n < length buf →
    set (put_mid h (h + n - h) (y ++ post_of 0 (h - 0) buf) ds) (h + n) 0 ≡ (y ++ (ds ++ 0 ∷ [])) ++ drop (h + length ds + 1) buf
frame h n buf y ds ly ld room =
    let all = y ++ drop (h - 0) buf in
    let front : take h all ≡ y = take_at y (drop (h - 0) buf) h ly in
    let after : drop h all ≡ drop (h - 0) buf = drop_at y (drop (h - 0) buf) h ly in
    let back : drop (h + n - h) (drop h all) ≡ get_or buf (h + n) 0 ∷ drop (h + n + 1) buf =
    ap (drop (h + n - h)) after ∙ drop-drop (h + n - h) (h - 0) buf ∙ ap (λ m. drop m buf) (omega arith) ∙ drop_more buf (h + n) 0 room in
    let middle : put_mid h (h + n - h) all ds ≡ (y ++ ds) ++ (get_or buf (h + n) 0 ∷ drop (h + n + 1) buf) =
    ap (λ l. l ++ (ds ++ drop (h + n - h) (drop h all))) front ∙ ap (λ l. y ++ (ds ++ l)) back ∙ sym (append_assoc y ds (get_or buf (h + n) 0 ∷ drop (h + n + 1) buf)) in
    let long : length (y ++ ds) ≡ h + n = length-append y ds ∙ omega (arith, ly, ld) in
    ap (λ l. set l (h + n) 0) middle
    ∙ set_at (y ++ ds) (get_or buf (h + n) 0) (drop (h + n + 1) buf) 0 (h + n) long
    ∙ append_assoc y ds (0 ∷ drop (h + n + 1) buf)
    ∙ ap (λ m. y ++ (ds ++ (0 ∷ drop (h + m + 1) buf))) (sym ld)
    ∙ ap (λ l. y ++ l) (sym (append_assoc ds (0 ∷ []) (drop (h + length ds + 1) buf)))
    ∙ sym (append_assoc y (ds ++ 0 ∷ []) (drop (h + length ds + 1) buf))

-- the part that the data was filled into
part_length : (h n : ℕ) (buf y : List ℕ) → length y ≡ h → h + n < length buf → length (take (h + n - h) (drop h (y ++ post_of 0 (h - 0) buf))) ≡ n
part_length h n buf y ly room =
    let all = y ++ drop (h - 0) buf in
    let whole : length all ≡ h + (length buf - h) = length-append y (drop (h - 0) buf) ∙ ap (λ m. length y + m) (length-drop (h - 0) buf) ∙ omega (arith, ly) in
    length-between all h (h + n) (omega (arith, whole)) ∙ omega arith

pub framed_is : (held : Map) (header dol buf y z : List ℕ) (n : ℕ) → size_of n (entries dol) ≡ Ok n → length header + n < length buf → y ≡ header →
    z ≡ filled (dol_data held (length (take (length header + n - length header) (drop (length header) (y ++ post_of 0 (length header - 0) buf)))) dol) (take (length header + n - length header) (drop (length header) (y ++ post_of 0 (length header - 0) buf))) →
    set (put_mid (length header) (length header + n - length header) (y ++ post_of 0 (length header - 0) buf) z) (length header + n) 0 ≡ framed header (dol_data held n dol) buf
framed_is held header dol buf y z n sized room is fill =
    let d = with_data held n n dol (sym sized) in
    let ds = d.data_bytes in
    let h = length header in
    let ly : length y ≡ h = ap length is in
    let part = take (h + n - h) (drop h (y ++ post_of 0 (h - 0) buf)) in
    let long : length part ≡ n = part_length h n buf y ly room in
    let ld : length ds ≡ n = d.long in
    let data_is : z ≡ ds =
    fill ∙ ap (λ m. filled (dol_data held m dol) part) long ∙ ap (λ o. filled o part) d.exactly ∙ ap (λ l. ds ++ l) (drop_all (length ds) part (omega (arith, long, ld))) ∙ append-nil ds in
    ap (λ l. set (put_mid h (h + n - h) (y ++ post_of 0 (h - 0) buf) l) (h + n) 0) data_is
    ∙ frame h n buf y ds ly ld room
    ∙ ap (λ l. (l ++ (ds ++ 0 ∷ [])) ++ drop (h + length ds + 1) buf) is
    ∙ ap (λ o. framed header o buf) (sym d.exactly)

-- a command whose header goes before the data and '00'
pub done : (fault : CommandFault) (command : List ℕ → List ℕ) (held : Map) (limit n r : ℕ) (dol header buf out : List ℕ) → Ok n ≡ size_of limit (entries dol) →
    ((ds : List ℕ) → length ds ≡ n → header ++ (ds ++ 0 ∷ []) ≡ command ds) → r ≡ length header + n + 1 → out ≡ framed header (dol_data held n dol) buf →
    (Ok r ≡ told (on_data fault command (dol_data held limit dol))) × (out ≡ written (on_data fault command (dol_data held limit dol)) buf)
done fault command held limit n r dol header buf out size shape told_is wrote =
    let d = with_data held limit n dol size in
    let ds = d.data_bytes in
    let ld : length ds ≡ n = d.long in
    let whole : header ++ (ds ++ 0 ∷ []) ≡ command ds = shape ds ld in
    let long : length header + length ds + 1 ≡ length (command ds) =
    sym (sym (ap length whole) ∙ length-append header (ds ++ 0 ∷ []) ∙ ap (λ m. length header + m) (length-append ds (0 ∷ [])) ∙ omega arith) in (
      ap Ok (told_is ∙ ap (λ m. length header + m + 1) (sym ld) ∙ long) ∙ ap (λ o. told (on_data fault command o)) (sym d.under_limit),
      wrote ∙ ap (λ o. framed header o buf) d.exactly ∙ ap (λ l. l ++ drop (length header + length ds + 1) buf) whole ∙ ap (λ m. command ds ++ drop m buf) long
          ∙ ap (λ o. written (on_data fault command o) buf) (sym d.under_limit),
    )

-- a command without data
pub done_empty : (fault : CommandFault) (command : List ℕ → List ℕ) (held : Map) (limit n : ℕ) (dol header buf y : List ℕ) → Ok n ≡ size_of limit (entries dol) → n ≡ 0 →
    header ≡ command [] → y ≡ header →
    (Ok (length header) ≡ told (on_data fault command (dol_data held limit dol))) × (y ++ drop (length header) buf ≡ written (on_data fault command (dol_data held limit dol)) buf)
done_empty fault command held limit n dol header buf y size zero is head =
    let d = with_data held limit n dol size in
    let none : d.data_bytes ≡ [] = nil_from_length d.data_bytes (d.long ∙ zero) in
    let given : Some [] ≡ dol_data held limit dol = sym (d.under_limit ∙ ap Some none) in (
      ap (λ l. Ok (length l)) is ∙ ap (λ o. told (on_data fault command o)) given,
      ap (λ l. l ++ drop (length header) buf) head ∙ ap (λ l. l ++ drop (length l) buf) is ∙ ap (λ o. written (on_data fault command o) buf) given,
    )

-- a refusal writes nothing
pub not_done : (fault : CommandFault) (command : List ℕ → List ℕ) (held : Map) (limit : ℕ) (dol buf : List ℕ) → None ≡ dol_data held limit dol →
    (Err fault ≡ told (on_data fault command (dol_data held limit dol))) × (buf ≡ written (on_data fault command (dol_data held limit dol)) buf)
not_done fault command held limit dol buf none = (ap (λ o. told (on_data fault command o)) none, ap (λ o. written (on_data fault command o) buf) none)
