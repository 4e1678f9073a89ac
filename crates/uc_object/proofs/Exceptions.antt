-- Exceptions: what fits their columns, and where none goes on so.
use Rattle.std.proofs.Common.{◌≡◌, ℕ, zero, suc, ◌+◌, ◌<◌, ◌≤◌, inl, List, [], ◌∷◌, ◌++◌, refl, ap, sym, ◌∙◌, subst, add-one, take, drop, length, get_or, arith, min, replicate}
use Rattle.std.specs.Int.{from_le_bytes, to_le_bytes, w32}
use Rattle.std.proofs.lemmas.Bool.Decides.{nat_tests}
use Rattle.std.proofs.lemmas.List.{take_at, drop_at, get_or_append_left, take-replicate, length-take-le}
use Rattle.std.proofs.Math.Seq.{take-append-add}
use Rattle.nv_base.specs.Name.{Letters, IsWord, IsName}
use Rattle.uc_object.specs.declared.byte_set.Column.{Column}
use Rattle.uc_object.specs.declared.byte_set.Column.TheVariants.{Between, First, Further}
use Rattle.uc_object.specs.Columns.{Allows, Fit, IsFault, IsExceptionFault, exception_columns, name_columns, any}
use Rattle.uc_object.specs.Object.{IsException}
use Rattle.uc_object.specs.inner.Parts.{Spells, IsFaultOf}
use Rattle.uc_object.proofs.Faults.{AllowFillers, fillers, fault-filled, filled-length, fault-within, fault-refuses, fault-misfits, fault-front, fit-front, fit-more, fit-length, fit-take}
use Rattle.uc_object.proofs.Numbers.{number-same}
use Rattle.uc_object.proofs.Reading.{four_bytes}
use Rattle.uc_object.proofs.Together.{IsPrefixCode}

-- the bytes fit the columns of an exception with a name as long as they say
abbrev pub FitsException : List ℕ → Type 0
FitsException bytes = Fit (exception_columns (get_or bytes 4 0)) bytes

-- names that fit their columns
further-fit : (n : ℕ) (bs : List ℕ) → Fit (replicate n Further) bs → length bs ≡ n → Letters bs
further-fit zero [] f l = tt
further-fit zero (b ∷ bs) f l = absurd (omega arith)
further-fit (suc n) [] f l = tt
further-fit (suc n) (b ∷ bs) f l = (f.0, further-fit n bs f.1 (omega arith))

letters-fit : (n : ℕ) (bs : List ℕ) → Letters bs → length bs ≡ n → Fit (replicate n Further) bs
letters-fit zero bs h l = tt
letters-fit (suc n) [] h l = absurd (omega arith)
letters-fit (suc n) (b ∷ bs) h l = (h.0, letters-fit n bs h.1 (omega arith))

name-fit : (n : ℕ) (bs : List ℕ) → 1 ≤ n → Fit (name_columns n) bs → length bs ≡ n → IsWord bs
name-fit zero bs some f l = absurd (omega arith)
name-fit (suc n) [] some f l = absurd (omega arith)
name-fit (suc n) (b ∷ bs) some f l = (f.0, further-fit n bs f.1 (omega arith))

word-fit : (n : ℕ) (bs : List ℕ) → IsWord bs → length bs ≡ n → Fit (name_columns n) bs
word-fit zero bs h l = tt
word-fit (suc n) [] h l = absurd h
word-fit (suc n) (b ∷ bs) h l = (h.0, letters-fit n bs h.1 (omega arith))

further-fillers : (n : ℕ) → AllowFillers (replicate n Further)
further-fillers zero = tt
further-fillers (suc n) = (inl (inl (omega arith, omega arith)), further-fillers n)

name-fillers : (n : ℕ) → AllowFillers (name_columns n)
name-fillers zero = tt
name-fillers (suc n) = (inl (omega arith, omega arith), further-fillers n)

further-length : (n : ℕ) → length (replicate n Further) ≡ n
further-length zero = refl
further-length (suc n) = ap suc (further-length n)

name-length : (n : ℕ) → length (name_columns n) ≡ n
name-length zero = refl
name-length (suc n) = ap suc (further-length n)

word-some : (bs : List ℕ) → IsWord bs → 1 ≤ length bs
word-some [] h = absurd h
word-some (b ∷ bs) h = omega arith

min-most : (n : ℕ) → n ≤ 64 → min n 64 ≡ n
min-most n h = grind (arith, nat_tests)

-- bytes that fit, and end with the name, are an exception
pub fits-exception : (a b c d size : ℕ) (name : List ℕ) → Fit (exception_columns size) (a ∷ b ∷ c ∷ d ∷ size ∷ name) → length name ≡ size
    → IsException (from_le_bytes w32 (a ∷ b ∷ c ∷ d ∷ []), name) (a ∷ b ∷ c ∷ d ∷ size ∷ name)
fits-exception a b c d size name f l =
    let range : (1 ≤ size) × (size ≤ 64) = f.1.1.1.1.0 in
    let word = name-fit size name range.0 (subst (λ n. Fit (name_columns n) name) (min-most size range.1) f.1.1.1.1.1) l in
    let four = four_bytes a b c d (from_le_bytes w32 (a ∷ b ∷ c ∷ d ∷ [])) (omega arith) (omega arith) (omega arith) (omega arith) refl in
    let bytes = four.1 in
    (four.0, (word, omega arith), cc)

-- an exception fits
pub exception-fits : (e : ℕ × List ℕ) (bytes : List ℕ) → IsException e bytes → FitsException bytes × (length bytes ≡ 5 + length e.1)
exception-fits e bytes h =
    let name = e.1 in
    let named : IsName name = h.1 in
    let some = word-some name named.0 in
    let most = named.1 in
    let all : (x : ℕ) → x < 256 → (0 ≤ x) × (x ≤ 255) = λ (x : ℕ) (less : x < 256). (omega arith, omega arith) in
    let five_more : length (to_le_bytes w32 e.0 ++ length name ∷ name) ≡ 5 + length name = omega arith in
    subst (λ (s : List ℕ). FitsException s × (length s ≡ 5 + length name)) (sym h.2)
    ((all _ (omega arith), (all _ (omega arith), (all _ (omega arith), (all _ (omega arith), ((some, most), subst (λ n. Fit (name_columns n) name) (sym (min-most (length name) most)) (word-fit (length name) name named.0 refl)))))), five_more)

pub exception-code : IsPrefixCode IsException
exception-code x y a b s t h k e =
    let spread : (to_le_bytes w32 x.0 ++ length x.1 ∷ x.1) ++ s ≡ (to_le_bytes w32 y.0 ++ length y.1 ∷ y.1) ++ t =
    ap (λ z. z ++ s) (sym h.2) ∙ e ∙ ap (λ z. z ++ t) k.2 in
    let four : to_le_bytes w32 x.0 ++ (length x.1 ∷ (x.1 ++ s)) ≡ to_le_bytes w32 y.0 ++ (length y.1 ∷ (y.1 ++ t)) = spread in
    let line = number-same x.0 y.0 (length x.1 ∷ (x.1 ++ s)) (length y.1 ∷ (y.1 ++ t)) h.0 k.0 four in
    let behind : length x.1 ∷ (x.1 ++ s) ≡ length y.1 ∷ (y.1 ++ t) = line.1 in
    let size : length x.1 ≡ length y.1 = cc in
    let rest : x.1 ++ s ≡ y.1 ++ t = cc in
    let name : x.1 ≡ y.1 = sym (take_at x.1 s (length y.1) size) ∙ ap (take (length y.1)) rest ∙ take_at y.1 t (length y.1) refl in
    let more : s ≡ t = sym (drop_at x.1 s (length y.1) size) ∙ ap (drop (length y.1)) rest ∙ drop_at y.1 t (length y.1) refl in
    let first : x.0 ≡ y.0 = line.0 in
    (ap (λ n. (n, x.1)) first ∙ ap (λ n. (y.0, n)) name, more)

pub exception-same : (e : ℕ × List ℕ) (a b : List ℕ) → IsException e a → IsException e b → a ≡ b
exception-same e a b h k = h.2 ∙ sym k.2

-- an exception named A
abbrev pub short-name : List ℕ
short-name = 65 ∷ []

zero-any : Allows any 0
zero-any = (omega arith, omega arith)

one-letter : Fit (name_columns (min 1 64)) short-name
one-letter = (inl (omega arith, omega arith), tt)

one-size : Allows (Between 1 64) 1
one-size = (omega arith, omega arith)

abbrev pub least_exception : List ℕ
least_exception = 0 ∷ 0 ∷ 0 ∷ 0 ∷ 1 ∷ short-name

pub least_exception-is : IsException (0, short-name) least_exception
least_exception-is = (omega arith, ((inl (omega arith, omega arith), tt), omega arith), refl)

-- the first five columns
abbrev five : List Column
five = any ∷ any ∷ any ∷ any ∷ Between 1 64 ∷ []

-- the bytes before a fault go on to an exception
goes-on : (bytes : List ℕ) (k : ℕ) → IsExceptionFault bytes k → k ≤ length bytes → (rest : List ℕ) × Spells IsException (take k bytes ++ rest)
goes-on bytes zero f l = (least_exception, ((0, short-name), least_exception-is))
goes-on [] (suc k) f l = absurd (omega arith)
goes-on (a ∷ bs) (suc zero) f l = (
  0 ∷ 0 ∷ 0 ∷ 1 ∷ short-name,
  ((_, short-name), fits-exception a 0 0 0 1 short-name (f.0, (zero-any, (zero-any, (zero-any, (one-size, one-letter))))) refl),
)
goes-on (a ∷ []) (suc (suc k)) f l = absurd (omega arith)
goes-on (a ∷ b ∷ bs) (suc (suc zero)) f l = (
  0 ∷ 0 ∷ 1 ∷ short-name,
  ((_, short-name), fits-exception a b 0 0 1 short-name (f.0, (f.1.0, (zero-any, (zero-any, (one-size, one-letter))))) refl),
)
goes-on (a ∷ b ∷ []) (suc (suc (suc k))) f l = absurd (omega arith)
goes-on (a ∷ b ∷ c ∷ bs) (suc (suc (suc zero))) f l = (
  0 ∷ 1 ∷ short-name,
  ((_, short-name), fits-exception a b c 0 1 short-name (f.0, (f.1.0, (f.1.1.0, (zero-any, (one-size, one-letter))))) refl),
)
goes-on (a ∷ b ∷ c ∷ []) (suc (suc (suc (suc k)))) f l = absurd (omega arith)
goes-on (a ∷ b ∷ c ∷ d ∷ bs) (suc (suc (suc (suc zero)))) f l = (
  1 ∷ short-name,
  ((_, short-name), fits-exception a b c d 1 short-name (f.0, (f.1.0, (f.1.1.0, (f.1.1.1.0, (one-size, one-letter))))) refl),
)
goes-on (a ∷ b ∷ c ∷ d ∷ []) (suc (suc (suc (suc (suc k))))) f l = absurd (omega arith)
goes-on (a ∷ b ∷ c ∷ d ∷ size ∷ bs) (suc (suc (suc (suc (suc k))))) f l =
    let range : (1 ≤ size) × (size ≤ 64) = f.1.1.1.1.0 in
    let same = min-most size range.1 in
    let columns = name_columns size in
    let left = subst (λ n. IsFault (name_columns n) bs k) same f.1.1.1.1.1 in
    let inside = fault-within columns bs k left in
    let name = take k bs ++ fillers (drop k columns) in
    let long : length name ≡ size = filled-length columns bs k (omega (arith, name-length size)) inside.1 ∙ name-length size in
    let fit = subst (λ n. Fit (name_columns n) name) (sym same) (fault-filled columns bs k (name-fillers size) left) in (
      fillers (drop k columns),
      ((_, name), fits-exception a b c d size name (f.0, (f.1.0, (f.1.1.0, (f.1.1.1.0, (range, fit))))) long),
    )

early-refuses : (bytes more : List ℕ) (k : ℕ) → IsExceptionFault bytes k → k < 5 → k < length bytes → ¬ FitsException (take (suc k) bytes ++ more)
early-refuses bytes more k f early l g =
    let front = take (suc k) bytes ++ more in
    fault-refuses five bytes more k (fault-front five (name_columns (min (get_or bytes 4 0) 64)) bytes k f early) l
    (fit-front five (name_columns (min (get_or front 4 0) 64)) front g)

-- no exception goes on as far as the fault, with it
refuses : (bytes more : List ℕ) (k : ℕ) → IsExceptionFault bytes k → k < length bytes → ¬ FitsException (take (suc k) bytes ++ more)
refuses bytes more zero f l g = early-refuses bytes more zero f (omega arith) l g
refuses bytes more (suc zero) f l g = early-refuses bytes more 1 f (omega arith) l g
refuses bytes more (suc (suc zero)) f l g = early-refuses bytes more 2 f (omega arith) l g
refuses bytes more (suc (suc (suc zero))) f l g = early-refuses bytes more 3 f (omega arith) l g
refuses bytes more (suc (suc (suc (suc zero)))) f l g = early-refuses bytes more 4 f (omega arith) l g
refuses (a ∷ b ∷ c ∷ d ∷ size ∷ bs) more (suc (suc (suc (suc (suc k))))) f l g =
    fault-refuses (exception_columns size) (a ∷ b ∷ c ∷ d ∷ size ∷ bs) more (suc (suc (suc (suc (suc k))))) f l g
refuses bytes more (suc (suc (suc (suc (suc k))))) f l g = absurd (omega arith)

fourth : (word rest : List ℕ) → 5 ≤ length word → get_or (word ++ rest) 4 0 ≡ get_or word 4 0
fourth word rest h = get_or_append_left word rest 0 4 (omega arith)

-- an exception's fault is where none goes on so
pub exception-fault : (bytes : List ℕ) (k : ℕ) → IsExceptionFault bytes k → IsFaultOf (Spells IsException) bytes k
exception-fault bytes k f =
    let within = (fault-within (exception_columns (get_or bytes 4 0)) bytes k f).1 in
    let fits : (x : ℕ × List ℕ) (word rest : List ℕ) → IsException x word → FitsException (word ++ rest) = λ x word rest h.
    let fit = exception-fits x word h in
    let same = fourth word rest (omega (arith, fit.1)) in
    subst (λ n. Fit (exception_columns n) (word ++ rest)) (sym same) (fit-more (exception_columns (get_or word 4 0)) word rest fit.0) in
    record {
      inside = within;
      before = goes-on bytes k f within;
      here = λ long word more rest w e.
          refuses bytes more k f long
          (subst FitsException (sym (ap (λ n. take n bytes ++ more) (sym (add-one k)) ∙ e)) (fits w.0 word rest w.1));
      short = λ ends word rest w e.
          fault-misfits (exception_columns (get_or bytes 4 0)) bytes k f (subst FitsException (sym e) (fits w.0 word rest w.1));
    }

-- five of a list, and so many more
five-more : {A : Type 0} (m : ℕ) (a b c d e : A) (rest : List A) → take (5 + m) (a ∷ b ∷ c ∷ d ∷ e ∷ rest) ≡ a ∷ b ∷ c ∷ d ∷ e ∷ take m rest
five-more m a b c d e rest = take-append-add (a ∷ b ∷ c ∷ d ∷ e ∷ []) rest m

name-take : (n m : ℕ) → m ≤ n → take m (name_columns n) ≡ name_columns m
name-take n zero h = refl
name-take zero (suc m) h = absurd (omega arith)
name-take (suc n) (suc m) h = ap (λ (cs : List Column). First ∷ cs) (take-replicate m n Further (omega arith))

min-below : (n : ℕ) → min n 64 ≤ 64
min-below n = grind (arith, nat_tests)

-- the columns of an exception are the first of those of the longest
pub columns-of : (size : ℕ) → take (5 + min size 64) (exception_columns 64) ≡ exception_columns size
columns-of size =
    five-more (min size 64) any any any any (Between 1 64) (name_columns 64)
    ∙ ap (λ (cs : List Column). any ∷ any ∷ any ∷ any ∷ Between 1 64 ∷ cs) (name-take 64 (min size 64) (min-below size))

-- bytes that fit begin with an exception of this size
pub size-fits : (bytes : List ℕ) → FitsException bytes → (5 + min (get_or bytes 4 0) 64 ≤ length bytes) × Spells IsException (take (5 + min (get_or bytes 4 0) 64) bytes)
size-fits (a ∷ b ∷ c ∷ d ∷ s ∷ rest) f =
    let range : (1 ≤ s) × (s ≤ 64) = f.1.1.1.1.0 in
    let same = min-most s range.1 in
    let fit : Fit (name_columns s) rest = subst (λ n. Fit (name_columns n) rest) same f.1.1.1.1.1 in
    let long = fit-length (name_columns s) rest fit in
    let size = name-length s in
    let name = take s rest in
    let exact : Fit (name_columns s) name = subst (λ n. Fit (name_columns s) (take n rest)) size (fit-take (name_columns s) rest fit) in
    let whole : take (5 + min s 64) (a ∷ b ∷ c ∷ d ∷ s ∷ rest) ≡ a ∷ b ∷ c ∷ d ∷ s ∷ name =
    ap (λ n. take (5 + n) (a ∷ b ∷ c ∷ d ∷ s ∷ rest)) same ∙ five-more s a b c d s rest in
    let line = from_le_bytes w32 (a ∷ b ∷ c ∷ d ∷ []) in
    let is : IsException (line, name) (a ∷ b ∷ c ∷ d ∷ s ∷ name) =
    fits-exception a b c d s name (f.0, (f.1.0, (f.1.1.0, (f.1.1.1.0, (range, subst (λ n. Fit (name_columns n) name) (sym same) exact))))) (length-take-le s rest (omega (arith, size))) in
    (omega (arith, same, size), ((line, name), subst (IsException (line, name)) (sym whole) is))
size-fits bytes f = let long = fit-length (exception_columns (get_or bytes 4 0)) bytes f in absurd (omega arith)
