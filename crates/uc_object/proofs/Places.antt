-- Where bytes stop to begin the header of an object.
use Rattle.std.proofs.Common.{if◌then◌else◌, ◌==◌, ◌≡◌, ℕ, suc, ◌+◌, ◌<◌, ◌≤◌, ◌^◌, ◌⊎◌, inl, inr, List, [], ◌∷◌, ◌++◌, refl, ap, sym, ◌∙◌, subst, append_assoc, add-one, take, drop, length, get_or, arith, length-append}
use Rattle.std.specs.Int.{from_le_bytes, w32}
use Rattle.std.proofs.lemmas.Bool.Decides.{nat_tests}
use Rattle.std.proofs.lemmas.Bool.{cases_lt}
use Rattle.std.proofs.lemmas.List.Elements.{All-nil}
use Rattle.std.proofs.lemmas.List.{drop_at, append-nil}
use Rattle.uc_object.specs.declared.byte_set.Column.{Column}
use Rattle.uc_object.specs.declared.byte_set.Column.TheVariants.{Between}
use Rattle.uc_object.specs.Rows.{IsRow}
use Rattle.uc_object.specs.Object.{IsObject, BeginsObject, IsBadPlace, header_of}
use Rattle.uc_object.specs.declared.object.Object.{Object}
use Rattle.uc_object.specs.declared.object.Object.TheVariants.{One, Two}
use Rattle.uc_object.specs.inner.Header.{HasHeader}
use Rattle.uc_object.specs.Columns.{Fit, IsHeaderFault, header_columns, only, any}
use Rattle.uc_object.proofs.Faults.{AllowFillers, fillers, fault-filled, filled-length, fault-within, fault-refuses, fault-misfits, fault-front, fit-front, fit-append}
use Rattle.uc_object.proofs.Headers.{FitsHeader, fits-header, has-fits}
use Rattle.uc_object.proofs.Rows.{zero_instruction, zeros, zeros-row}
use Rattle.uc_object.proofs.Together.{many-some}

-- an object has a header
pub object-header : (bytes : List ℕ) (o : Object) → IsObject bytes o → (v : ℕ) × (p : ℕ) × (n : ℕ) × (rest : List ℕ) × HasHeader bytes v p n rest
object-header bytes (One c) o = (49, c.params, length c.list, o.rows, record { layout = o.layout; known = inl refl; arguments = o.code.params; some = o.code.some; few = o.code.few })
object-header bytes (Two t) o = (50, t.code.params, length t.code.list, _, record { layout = o.layout; known = inr refl; arguments = o.code.params; some = o.code.some; few = o.code.few })

object-fits : (bytes : List ℕ) (x : Object) → IsObject bytes x → FitsHeader bytes
object-fits bytes x o = let h = object-header bytes x o in has-fits bytes h.0 h.1 h.2 h.3 h.4

-- a header goes on to an object of its version
header-goes : (v p n : ℕ) → (v ≡ 49) ⊎ (v ≡ 50) → p ≤ 8 → 1 ≤ n → n < 2 ^ 31 → (more : List ℕ) × (o : Object) × IsObject (header_of v p n ++ more) o
header-goes v p n (inl one) hp some few =
    let rows = many-some IsRow zero_instruction zeros zeros-row n in
    let many = rows.1.1.0 in (
      rows.0,
      One (record { params = p; list = rows.1.0 }),
      subst (λ w. IsObject (header_of w p n ++ rows.0) (One (record { params = p; list = rows.1.0 }))) (sym one)
          record {
            code = record { params = hp; some = rw many some; few = rw many few };
            rows = rows.0;
            layout = ap (λ m. header_of 49 p m ++ rows.0) (sym many);
            each = rows.1.1.1;
          },
    )
header-goes v p n (inr two) hp some few =
    let rows = many-some IsRow zero_instruction zeros zeros-row n in
    let many = rows.1.1.0 in
    let more = 0 ∷ 0 ∷ 0 ∷ 0 ∷ 0 ∷ 0 ∷ 0 ∷ 0 ∷ rows.0 in
    let o = Two (record { code = record { params = p; list = rows.1.0 }; exceptions = []; starts = [] }) in (
      more,
      o,
      subst (λ w. IsObject (header_of w p n ++ more) o) (sym two)
          record {
            code = record { params = hp; some = rw many some; few = rw many few };
            tagged = record { exceptions = omega arith; starts = omega arith; inside = All-nil (λ start. start < length rows.1.0) };
            rows = rows.0;
            exceptions = [];
            starts = [];
            layout = ap (λ m. header_of 50 p m ++ more) (sym many) ∙ ap (λ x. header_of 50 p (length rows.1.0) ++ (0 ∷ 0 ∷ 0 ∷ 0 ∷ 0 ∷ 0 ∷ 0 ∷ 0 ∷ x)) (sym (append-nil rows.0));
            each_row = rows.1.1.1;
            each_exception = refl;
            each_start = refl;
          },
    )

-- bytes that are the prefix of a header begin an object
header-begins : (front fill : List ℕ) → length (front ++ fill) ≡ 12 → FitsHeader (front ++ fill) → BeginsObject front
header-begins front fill l f =
    let whole = front ++ fill in
    let n = from_le_bytes w32 (get_or whole 8 0 ∷ get_or whole 9 0 ∷ get_or whole 10 0 ∷ get_or whole 11 0 ∷ []) in
    let v = get_or whole 3 0 in
    let p = get_or whole 4 0 in
    let h = fits-header whole n f refl in
    let none : drop 12 whole ≡ [] = subst (λ m. drop m whole ≡ []) l (ap (drop (length whole)) (sym (append-nil whole)) ∙ drop_at whole [] (length whole) refl) in
    let exact : whole ≡ header_of v p n = h.layout ∙ ap (λ x. header_of v p n ++ x) none ∙ append-nil (header_of v p n) in
    let goes = header-goes v p n h.known h.arguments h.some h.few in
    (fill ++ goes.0, (goes.1, subst (λ x. IsObject x goes.1) (ap (λ x. x ++ goes.0) (sym exact) ∙ append_assoc front fill goes.0) goes.2))

-- the header's columns but the last, which don't depend on its bytes
abbrev columns_before : List Column
columns_before = only 78 ∷ only 86 ∷ only 79 ∷ Between 49 50 ∷ Between 0 8 ∷ only 0 ∷ only 0 ∷ only 0 ∷ any ∷ any ∷ any ∷ []

fillers_before : AllowFillers columns_before
fillers_before = grind arith

-- the header's last column
abbrev column_last : ℕ → ℕ → ℕ → List Column
column_last a b c = Between (if a + b + c == 0 then 1 else 0) 127 ∷ []

one-allowed : (a b c : ℕ) → Fit (column_last a b c) (1 ∷ [])
one-allowed a b c = grind (arith, nat_tests)

least-allowed : (a b c : ℕ) → AllowFillers (header_columns a b c)
least-allowed a b c = grind (arith, nat_tests)

-- the last byte of a count can be 1
one-last : (bs : List ℕ) → length bs ≡ 11 → Fit columns_before bs → FitsHeader (bs ++ 1 ∷ [])
one-last bs l f =
    let whole = bs ++ 1 ∷ [] in
    let a = get_or whole 8 0 in
    let b = get_or whole 9 0 in
    let c = get_or whole 10 0 in
    fit-append columns_before (column_last a b c) bs (1 ∷ []) l f (one-allowed a b c)

last-fault-begins : (bytes : List ℕ) → IsHeaderFault bytes 11 → BeginsObject (take 11 bytes)
last-fault-begins (b0 ∷ b1 ∷ b2 ∷ b3 ∷ b4 ∷ b5 ∷ b6 ∷ b7 ∷ b8 ∷ b9 ∷ b10 ∷ rest) f =
    let bytes = b0 ∷ b1 ∷ b2 ∷ b3 ∷ b4 ∷ b5 ∷ b6 ∷ b7 ∷ b8 ∷ b9 ∷ b10 ∷ rest in
    header-begins (take 11 bytes) (fillers (column_last b8 b9 b10)) refl (fault-filled (header_columns b8 b9 b10) bytes 11 (least-allowed b8 b9 b10) f)
last-fault-begins bytes f =
    let inside = fault-within (header_columns (get_or bytes 8 0) (get_or bytes 9 0) (get_or bytes 10 0)) bytes 11 f in
    absurd (omega arith)

last-fault-refuses : (bytes more : List ℕ) → IsHeaderFault bytes 11 → 11 < length bytes → ¬ FitsHeader (take 12 bytes ++ more)
last-fault-refuses (b0 ∷ b1 ∷ b2 ∷ b3 ∷ b4 ∷ b5 ∷ b6 ∷ b7 ∷ b8 ∷ b9 ∷ b10 ∷ b11 ∷ rest) more f h fits =
    fault-refuses (header_columns b8 b9 b10) (b0 ∷ b1 ∷ b2 ∷ b3 ∷ b4 ∷ b5 ∷ b6 ∷ b7 ∷ b8 ∷ b9 ∷ b10 ∷ b11 ∷ rest) more 11 f h fits
last-fault-refuses bytes more f h fits = absurd (omega arith)

early-fault-begins : (bytes : List ℕ) (k : ℕ) → IsHeaderFault bytes k → k < 11 → BeginsObject (take k bytes)
early-fault-begins bytes k f early =
    let g = fault-front columns_before (column_last (get_or bytes 8 0) (get_or bytes 9 0) (get_or bytes 10 0)) bytes k f early in
    let fill = fillers (drop k columns_before) in
    let inside = fault-within columns_before bytes k g in
    let eleven = filled-length columns_before bytes k (omega arith) inside.1 in
    let fits = one-last (take k bytes ++ fill) eleven (fault-filled columns_before bytes k fillers_before g) in
    let long : length (take k bytes ++ (fill ++ 1 ∷ [])) ≡ 12 =
    ap length (sym (append_assoc (take k bytes) fill (1 ∷ []))) ∙ length-append (take k bytes ++ fill) (1 ∷ []) ∙ ap (λ n. n + 1) eleven in
    header-begins (take k bytes) (fill ++ 1 ∷ []) long (subst FitsHeader (append_assoc (take k bytes) fill (1 ∷ [])) fits)

early-fault-refuses : (bytes more : List ℕ) (k : ℕ) → IsHeaderFault bytes k → k < 11 → k < length bytes → ¬ FitsHeader (take (suc k) bytes ++ more)
early-fault-refuses bytes more k f early h fits =
    let front = take (suc k) bytes ++ more in
    let g = fault-front columns_before (column_last (get_or bytes 8 0) (get_or bytes 9 0) (get_or bytes 10 0)) bytes k f early in
    fault-refuses columns_before bytes more k g h
    (fit-front columns_before (column_last (get_or front 8 0) (get_or front 9 0) (get_or front 10 0)) front fits)

header-fault-within : (bytes : List ℕ) (k : ℕ) → IsHeaderFault bytes k → (k < 12) × (k ≤ length bytes)
header-fault-within bytes k f = fault-within (header_columns (get_or bytes 8 0) (get_or bytes 9 0) (get_or bytes 10 0)) bytes k f

header-fault-begins : (bytes : List ℕ) (k : ℕ) → IsHeaderFault bytes k → BeginsObject (take k bytes)
header-fault-begins bytes k f = elim (cases_lt k 11) [
  | inl early ↦ early-fault-begins bytes k f early
  | inr late ↦
      let inside = header-fault-within bytes k f in
      let here : 11 ≡ k = omega arith in
      subst (λ n. BeginsObject (take n bytes)) here (last-fault-begins bytes (subst (IsHeaderFault bytes) (sym here) f))
]

header-fault-refuses : (bytes more : List ℕ) (k : ℕ) → IsHeaderFault bytes k → k < length bytes → ¬ FitsHeader (take (suc k) bytes ++ more)
header-fault-refuses bytes more k f h fits = elim (cases_lt k 11) [
  | inl early ↦ early-fault-refuses bytes more k f early h fits
  | inr late ↦
      let inside = header-fault-within bytes k f in
      let here : k ≡ 11 = omega arith in
      let far : 11 < length bytes = omega arith in
      last-fault-refuses bytes more (subst (IsHeaderFault bytes) here f) far (subst (λ n. FitsHeader (take (suc n) bytes ++ more)) here fits)
]

-- a header's fault is where the bytes go wrong
pub header-bad : (bytes : List ℕ) (k : ℕ) → IsHeaderFault bytes k → IsBadPlace bytes k
header-bad bytes k f = record {
  inside = (header-fault-within bytes k f).1;
  before = header-fault-begins bytes k f;
  here = λ h b.
      header-fault-refuses bytes b.0 k f h (object-fits (take (suc k) bytes ++ b.0) b.1.0 (subst (λ n. IsObject (take n bytes ++ b.0) b.1.0) (add-one k) b.1.1));
  short = λ h o. fault-misfits (header_columns (get_or bytes 8 0) (get_or bytes 9 0) (get_or bytes 10 0)) bytes k f (object-fits bytes o.0 o.1);
}
