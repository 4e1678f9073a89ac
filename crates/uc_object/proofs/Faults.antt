-- The first byte that may not stand in its place.
use Rattle.std.proofs.Common.{◌≡◌, ℕ, zero, suc, ◌+◌, ◌<◌, ◌≤◌, List, [], ◌∷◌, ◌++◌, length, take, drop, get_or, refl, ap, subst, arith}
use Rattle.std.proofs.lemmas.List.{drop_more, drop_all}
use Rattle.std.proofs.lemmas.Bool.Decides.{nat_tests}
use Rattle.uc_object.specs.declared.byte_set.Column.{Column}
use Rattle.uc_object.specs.declared.byte_set.Column.TheVariants.{Between, Source, Target, First, Further}
use Rattle.uc_object.specs.Columns.{Allows, Fit, IsFault, row_columns}

-- a byte that may not stand in its place is a fault of the rest
pub fault_here : (cs : List Column) (bs : List ℕ) (i b : ℕ) (d : Column) → i < length cs → i < length bs → get_or bs i 0 ≡ b
    → ¬ Allows (get_or cs i d) b → IsFault (drop i cs) (drop i bs) 0
fault_here cs bs i b d h k e n = rw (drop_more cs i d, drop_more bs i 0, e) n

-- so is a byte that isn't there
pub fault_end : (cs : List Column) (bs : List ℕ) (i : ℕ) (d : Column) → i < length cs → length bs ≤ i → IsFault (drop i cs) (drop i bs) 0
fault_end cs bs i d h k = rw (drop_more cs i d, drop_all i bs k) refl

-- a byte that may stand in its place leaves the question to the rest
pub fit_more : (cs : List Column) (bs : List ℕ) (i b : ℕ) (d : Column) → i < length cs → i < length bs → get_or bs i 0 ≡ b
    → Allows (get_or cs i d) b → Fit (drop (i + 1) cs) (drop (i + 1) bs) → Fit (drop i cs) (drop i bs)
fit_more cs bs i b d h k e a f = rw (drop_more cs i d, drop_more bs i 0, e) (a, f)

pub fault_more : (cs : List Column) (bs : List ℕ) (i b : ℕ) (d : Column) → i < length cs → i < length bs → get_or bs i 0 ≡ b
    → Allows (get_or cs i d) b → (at : ℕ) → IsFault (drop (i + 1) cs) (drop (i + 1) bs) at → IsFault (drop i cs) (drop i bs) (suc at)
fault_more cs bs i b d h k e a at f = rw (drop_more cs i d, drop_more bs i 0, e) (a, f)

-- as many bytes as columns, at least
pub fit-length : (cs : List Column) (bs : List ℕ) → Fit cs bs → length cs ≤ length bs
fit-length [] bs f = omega arith
fit-length (c ∷ cs) [] f = absurd f
fit-length (c ∷ cs) (b ∷ bs) f = let more = fit-length cs bs f.1 in omega arith

-- a fault is at one of the columns, and no further than where the bytes end
pub fault-within : (cs : List Column) (bs : List ℕ) (at : ℕ) → IsFault cs bs at → (at < length cs) × (at ≤ length bs)
fault-within [] bs at f = absurd f
fault-within (c ∷ cs) [] at f = (omega arith, omega arith)
fault-within (c ∷ cs) (b ∷ bs) zero f = (omega arith, omega arith)
fault-within (c ∷ cs) (b ∷ bs) (suc at) f = let more = fault-within cs bs at f.1 in (omega arith, omega arith)

-- no bytes that begin as far as a fault, with it, fit
pub fault-refuses : (cs : List Column) (bs rest : List ℕ) (at : ℕ) → IsFault cs bs at → at < length bs → ¬ Fit cs (take (suc at) bs ++ rest)
fault-refuses [] bs rest at f h g = f
fault-refuses (c ∷ cs) [] rest at f h g = absurd (omega arith)
fault-refuses (c ∷ cs) (b ∷ bs) rest zero f h g = f g.0
fault-refuses (c ∷ cs) (b ∷ bs) rest (suc at) f h g = fault-refuses cs bs rest at f.1 (omega arith) g.1

-- bytes with a fault don't fit
pub fault-misfits : (cs : List Column) (bs : List ℕ) (at : ℕ) → IsFault cs bs at → ¬ Fit cs bs
fault-misfits [] bs at f g = f
fault-misfits (c ∷ cs) [] at f g = g
fault-misfits (c ∷ cs) (b ∷ bs) zero f g = f g.0
fault-misfits (c ∷ cs) (b ∷ bs) (suc at) f g = fault-misfits cs bs at f.1 g.1

-- the prefix of the columns
pub fit-front : (cs ds : List Column) (bs : List ℕ) → Fit (cs ++ ds) bs → Fit cs bs
fit-front [] ds bs f = tt
fit-front (c ∷ cs) ds [] f = absurd f
fit-front (c ∷ cs) ds (b ∷ bs) f = (f.0, fit-front cs ds bs f.1)

pub fault-front : (cs ds : List Column) (bs : List ℕ) (at : ℕ) → IsFault (cs ++ ds) bs at → at < length cs → IsFault cs bs at
fault-front [] ds bs at f h = absurd (omega arith)
fault-front (c ∷ cs) ds [] at f h = f
fault-front (c ∷ cs) ds (b ∷ bs) zero f h = f
fault-front (c ∷ cs) ds (b ∷ bs) (suc at) f h = (f.0, fault-front cs ds bs at f.1 (omega arith))

-- what follows doesn't matter
pub fit-more : (cs : List Column) (bs rest : List ℕ) → Fit cs bs → Fit cs (bs ++ rest)
fit-more [] bs rest f = tt
fit-more (c ∷ cs) [] rest f = absurd f
fit-more (c ∷ cs) (b ∷ bs) rest f = (f.0, fit-more cs bs rest f.1)

pub fit-append : (cs ds : List Column) (xs bs : List ℕ) → length xs ≡ length cs → Fit cs xs → Fit ds bs → Fit (cs ++ ds) (xs ++ bs)
fit-append [] ds [] bs l f g = g
fit-append [] ds (a ∷ xs) bs l f g = absurd (omega arith)
fit-append (c ∷ cs) ds [] bs l f g = absurd f
fit-append (c ∷ cs) ds (a ∷ xs) bs l f g = (f.0, fit-append cs ds xs bs (omega arith) f.1 g)

-- the least byte that a column allows
abbrev pub filler : Column → ℕ
filler (Between low high) = low
filler Source = 0
filler Target = 0
filler First = 65
filler Further = 65

abbrev pub fillers : List Column → List ℕ
fillers [] = []
fillers (c ∷ cs) = filler c ∷ fillers cs

-- every column allows its least byte
abbrev pub AllowFillers : List Column → Type 0
AllowFillers [] = Unit {0}
AllowFillers (c ∷ cs) = Allows c (filler c) × AllowFillers cs

pub fillers-fit : (cs : List Column) → AllowFillers cs → Fit cs (fillers cs)
fillers-fit [] a = tt
fillers-fit (c ∷ cs) a = (a.0, fillers-fit cs a.1)

-- the bytes before a fault, filled up, fit
pub fault-filled : (cs : List Column) (bs : List ℕ) (at : ℕ) → AllowFillers cs → IsFault cs bs at → Fit cs (take at bs ++ fillers (drop at cs))
fault-filled [] bs at a f = absurd f
fault-filled (c ∷ cs) [] zero a f = fillers-fit (c ∷ cs) a
fault-filled (c ∷ cs) [] (suc at) a f = absurd (omega arith)
fault-filled (c ∷ cs) (b ∷ bs) zero a f = fillers-fit (c ∷ cs) a
fault-filled (c ∷ cs) (b ∷ bs) (suc at) a f = (f.0, fault-filled cs bs at a.1 f.1)

pub fillers-length : (cs : List Column) → length (fillers cs) ≡ length cs
fillers-length [] = refl
fillers-length (c ∷ cs) = ap suc (fillers-length cs)

-- the bytes before a place that fits, filled up, are as many as the columns
pub filled-length : (cs : List Column) (bs : List ℕ) (at : ℕ) → at ≤ length cs → at ≤ length bs → length (take at bs ++ fillers (drop at cs)) ≡ length cs
filled-length [] bs zero h k = refl
filled-length [] bs (suc at) h k = absurd (omega arith)
filled-length (c ∷ cs) [] (suc at) h k = absurd (omega arith)
filled-length (c ∷ cs) bs zero h k = fillers-length (c ∷ cs)
filled-length (c ∷ cs) (b ∷ bs) (suc at) h k = ap suc (filled-length cs bs at (omega arith) (omega arith))

-- as many bytes as columns suffice
pub fit-take : (cs : List Column) (bs : List ℕ) → Fit cs bs → Fit cs (take (length cs) bs)
fit-take [] bs f = tt
fit-take (c ∷ cs) [] f = absurd f
fit-take (c ∷ cs) (b ∷ bs) f = (f.0, fit-take cs bs f.1)

-- a row has eight columns
pub row_columns-length : (kind operation : ℕ) → length (row_columns kind operation) ≡ 8
row_columns-length kind operation = grind (arith, nat_tests)

-- the first eight bytes one by one
pub take-eight : (bs : List ℕ) → 8 ≤ length bs
    → take 8 bs ≡ get_or bs 0 0 ∷ get_or bs 1 0 ∷ get_or bs 2 0 ∷ get_or bs 3 0 ∷ get_or bs 4 0 ∷ get_or bs 5 0 ∷ get_or bs 6 0 ∷ get_or bs 7 0 ∷ []
take-eight (a ∷ b ∷ c ∷ d ∷ e ∷ f ∷ g ∷ h ∷ bs) l = refl
take-eight _ l = absurd (omega arith)

-- the bytes of a row that fits, at the prefix of others
pub fit-eight : (bs : List ℕ) → Fit (row_columns (get_or bs 0 0) (get_or bs 1 0)) bs
    → Fit (row_columns (get_or bs 0 0) (get_or bs 1 0)) (get_or bs 0 0 ∷ get_or bs 1 0 ∷ get_or bs 2 0 ∷ get_or bs 3 0 ∷ get_or bs 4 0 ∷ get_or bs 5 0 ∷ get_or bs 6 0 ∷ get_or bs 7 0 ∷ [])
fit-eight bs f =
    let cs = row_columns (get_or bs 0 0) (get_or bs 1 0) in
    let eight = row_columns-length (get_or bs 0 0) (get_or bs 1 0) in
    let long = fit-length cs bs f in
    subst (Fit cs) (take-eight bs (omega arith)) (subst (λ n. Fit cs (take n bs)) eight (fit-take cs bs f))

-- the columns that the code finds are those of the bytes
pub row-columns : (bs : List ℕ) (a b : ℕ) (cs : List Column) → cs ≡ row_columns a b → a ≡ get_or bs 0 0 → b ≡ get_or bs 1 0
    → cs ≡ row_columns (get_or bs 0 0) (get_or bs 1 0)
row-columns bs a b cs e p q = cc
