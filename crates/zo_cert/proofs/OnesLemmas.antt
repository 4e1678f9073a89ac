-- lines that aren't those of the columns that are 1
use Rattle.std.proofs.Common.{◌≡◌, ℕ, suc, ◌+◌, ◌^◌, ◌<◌, ◌≤◌, List, [], ◌∷◌, ◌++◌, length, map, refl, sym, ap, ◌∙◌, subst, arith, codes, decimal, lit≤, Bool, true, false}
use Rattle.nv_lines.specs.Line.{AllLack, parts}
use Rattle.nv_lines.proofs.SplitLaws.{parts-parted, Lacks-test}
use Rattle.nv_lines.proofs.NumberLaws.{Lacks-decimal}
use Rattle.nv_lines.proofs.NumberLemmas.{decimal_one}
use Rattle.zo_cert.specs.ReportText.{ones_from}
use Rattle.zo_cert.specs.inner.ReportLine.{IsOnesLine}
use Rattle.zo_cert.proofs.ReadPieces.{Up, ReadsOnes}

up_weaker : (lo lo' n : ℕ) (js : List ℕ) → lo' ≤ lo → Up lo n js → Up lo' n js
up_weaker lo lo' n [] le u = tt
up_weaker lo lo' n (j ∷ js) le u = (omega (arith, u.0), u.1, u.2)

pub ones_up : (i n : ℕ) (xs : List Bool) → length xs + i ≤ n → Up i n (ones_from i xs)
ones_up i n [] le = tt
ones_up i n (true ∷ xs) le = (omega arith, omega arith, ones_up (suc i) n xs (omega arith))
ones_up i n (false ∷ xs) le = up_weaker (suc i) i n (ones_from (suc i) xs) (omega arith) (ones_up (suc i) n xs (omega arith))

ones_lack : (lo n : ℕ) (js : List ℕ) → n ≤ 2 ^ 26 → Up lo n js → AllLack 32 (map decimal js)
ones_lack lo n [] few u = tt
ones_lack lo n (j ∷ js) few u = (Lacks-decimal 32 j (lit≤ tt) (omega (arith, u.1)), ones_lack (suc j) n js few u.2)

pub ones_parts : (n : ℕ) (line : List ℕ) → n ≤ 2 ^ 26 → (k : IsOnesLine n line) → parts line ≡ codes "x" ∷ map decimal (ones_from 0 k.on)
ones_parts n line few k =
    ap parts k.spelled ∙ parts-parted (codes "x") (map decimal (ones_from 0 k.on)) (Lacks-test 32 (codes "x") refl, ones_lack 0 n (ones_from 0 k.on) few (ones_up 0 n k.on (omega (arith, k.one_a_column))))

-- columns whose texts begin with those of others begin with them
columns_front : (lo lo' n : ℕ) (done js : List ℕ) (rest : List (List ℕ)) → n ≤ 2 ^ 26 → Up lo n done → Up lo' n js → map decimal js ≡ map decimal done ++ rest → (more : List ℕ) × (js ≡ done ++ more) × (rest ≡ map decimal more)
columns_front lo lo' n [] js rest few u v e = (js, refl, sym e)
columns_front lo lo' n (d ∷ done) [] rest few u v e = cc
columns_front lo lo' n (d ∷ done) (j ∷ js) rest few u v e =
    let heads : decimal j ≡ decimal d = cc (e) in
    let tails : map decimal js ≡ map decimal done ++ rest = cc (e) in
    let same = decimal_one j d (omega (arith, v.1)) (omega (arith, u.1)) heads in
    let r = columns_front (suc d) (suc j) n done js rest few u.2 v.2 tails in
    (r.0, ap (λ x. x ∷ js) same ∙ ap (λ x. d ∷ x) r.1, r.2)

-- a part that is no further column
pub no_ones : (n : ℕ) (line part : List ℕ) (all rest rest' : List (List ℕ)) (on : List Bool) (lo : ℕ) → n ≤ 2 ^ 26 → ReadsOnes all rest on n lo → rest ≡ part ∷ rest' → parts line ≡ codes "x" ∷ all → ((j : ℕ) → lo ≤ j → j < n → part ≡ decimal j → ⊥) → IsOnesLine n line → ⊥
no_ones n line part all rest rest' on lo few r e f none k =
    let p = ones_parts n line few k in
    let same : map decimal (ones_from 0 k.on) ≡ all = cc (f, p) in
    let up = ones_up 0 n k.on (omega (arith, k.one_a_column)) in
    let front = columns_front 0 0 n (ones_from 0 on) (ones_from 0 k.on) (part ∷ rest') few (ones_up 0 n on (omega (arith, r.counted))) up (same ∙ (r.spelled ∙ ap (λ x. map decimal (ones_from 0 on) ++ x) e)) in
    next front.0 (subst (Up 0 n) front.1 up) front.2
  where
    next : (more : List ℕ) → Up 0 n (ones_from 0 on ++ more) → part ∷ rest' ≡ map decimal more → ⊥
    next [] u texts = cc
    next (j ∷ more) u texts = let w = r.back (j ∷ more) u in none j w.0 w.1 (cc (texts))
