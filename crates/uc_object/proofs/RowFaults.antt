-- A row that has a fault: what comes before it goes on to a row, and what ends with it doesn't.
use Rattle.std.proofs.Common.{◌≡◌, ℕ, zero, suc, ◌<◌, ◌≤◌, List, [], ◌∷◌, ◌++◌, Bool, true, false, refl, ap, sym, ◌∙◌, subst, add-one, length-append, take, drop, length, get_or, arith, if◌then◌else◌}
use Rattle.std.proofs.lemmas.List.{take-append-drop, take_at}
use Rattle.uc_isa.specs.declared.instruction.Instr.{Instr}
use Rattle.uc_object.specs.declared.byte_set.Column.{Column}
use Rattle.uc_object.specs.Rows.{IsRow}
use Rattle.uc_object.specs.Columns.{Fit, IsRowFault, row_columns}
use Rattle.uc_object.specs.inner.Parts.{Spells, IsFaultOf}
use Rattle.uc_object.proofs.Faults.{AllowFillers, fillers, fault-filled, filled-length, fault-within, fault-refuses, fit-more, row_columns-length}
use Rattle.uc_object.proofs.Fitting.{FitsRow, row-fits, fit-row}
use Rattle.uc_object.proofs.Single.{instruction_of}
use Rattle.uc_object.proofs.Rows.{zeros, zero_instruction, zeros-row}

either : (P : List Column → Type 0) (b : Bool) (xs ys : List Column) → P xs → P ys → P (if b then xs else ys)
either P true xs ys h k = h
either P false xs ys h k = k

-- any row goes on with zeros after its kind
abbrev seven : List ℕ
seven = 0 ∷ 0 ∷ 0 ∷ 0 ∷ 0 ∷ 0 ∷ 0 ∷ []

zeros-fit : (kind : ℕ) → kind ≤ 6 → Fit (row_columns kind 0) (kind ∷ seven)
zeros-fit kind h = grind (arith)

-- every column of a row allows its least byte
row-fillers : (kind operation : ℕ) → AllowFillers (row_columns kind operation)
row-fillers kind operation = grind (arith)

-- a row that goes on as far as a fault and otherwise after it
abbrev pub Completes : List ℕ → Type 0
Completes front = (rest : List ℕ) × FitsRow (front ++ rest)

pub fault-completes : (bytes : List ℕ) (k : ℕ) → IsRowFault bytes k → Completes (take k bytes)
fault-completes bytes zero f = (zeros, row-fits zero_instruction zeros zeros-row)
fault-completes [] (suc k) f = absurd (omega arith)
fault-completes (a ∷ bytes) (suc zero) f = (seven, (refl, zeros-fit a f.0.1))
fault-completes (a ∷ []) (suc (suc k)) f =
    let inside = fault-within (row_columns a 0) (a ∷ []) (suc (suc k)) f in
    absurd (omega arith)
fault-completes (a ∷ b ∷ bytes) (suc (suc k)) f =
    let cs = row_columns a b in
    let bs = a ∷ b ∷ bytes in
    let inside = fault-within cs bs (suc (suc k)) f in
    let fit = fault-filled cs bs (suc (suc k)) (row-fillers a b) f in
    (fillers (drop (suc (suc k)) cs), (filled-length cs bs (suc (suc k)) (omega arith) inside.1 ∙ row_columns-length a b, fit))

-- no row begins with the bytes up to a fault, with it
pub fault-refuses-row : (bytes more : List ℕ) (k : ℕ) (i : Instr) → IsRowFault bytes k → k < length bytes → ¬ IsRow i (take 8 (take (suc k) bytes ++ more))
fault-refuses-row [] more k i f h r = absurd (omega arith)
fault-refuses-row (a ∷ bytes) more zero i f h r =
    let fits = row-fits i (take 8 (a ∷ more)) r in
    f fits.1.0
fault-refuses-row (a ∷ []) more (suc k) i f h r = absurd (omega arith)
fault-refuses-row (a ∷ b ∷ bytes) more (suc k) i f h r =
    let bs = a ∷ b ∷ bytes in
    let front = take (suc (suc k)) bs ++ more in
    let fits = row-fits i (take 8 front) r in
    let whole = fit-more (row_columns a b) (take 8 front) (drop 8 front) fits.1 in
    fault-refuses (row_columns a b) bs more (suc k) f h (subst (Fit (row_columns a b)) (take-append-drop 8 front) whole)

-- a row's fault is within the row
pub row-fault-within : (bytes : List ℕ) (k : ℕ) → IsRowFault bytes k → (k < 8) × (k ≤ length bytes)
row-fault-within bytes k f =
    let cs = row_columns (get_or bytes 0 0) (get_or bytes 1 0) in
    let inside = fault-within cs bytes k f in
    let eight = row_columns-length (get_or bytes 0 0) (get_or bytes 1 0) in
    (omega arith, inside.1)

-- a row's fault is where no row goes on so
pub row-fault : (bytes : List ℕ) (k : ℕ) → IsRowFault bytes k → IsFaultOf (Spells IsRow) bytes k
row-fault bytes k f =
    let near = row-fault-within bytes k f in
    let eight : (i : Instr) (word rest : List ℕ) → IsRow i word → take 8 (word ++ rest) ≡ word = λ i word rest h. take_at word rest 8 (row-fits i word h).0 in
    record {
      inside = near.1;
      before = let done = fault-completes bytes k f in (done.0, (instruction_of (take k bytes ++ done.0), fit-row (take k bytes ++ done.0) done.1));
      here = λ long word more rest w e.
          fault-refuses-row bytes more k w.0 f long
          (subst (IsRow w.0) (sym (ap (λ n. take 8 (take n bytes ++ more)) (sym (add-one k)) ∙ ap (take 8) e ∙ eight w.0 word rest w.1)) w.1);
      short = λ ends word rest w e.
          let size = (row-fits w.0 word w.1).0 in
          let all = ap length e ∙ length-append word rest in
          absurd (omega arith);
    }
