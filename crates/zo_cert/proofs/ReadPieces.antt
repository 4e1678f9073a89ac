-- columns, read one by one
use Rattle.std.proofs.Common.{◌≡◌, ℕ, zero, suc, ◌+◌, ◌<◌, ◌≤◌, List, [], ◌∷◌, ◌++◌, length, get_or, set, replicate, map, refl, sym, ap, ◌∙◌, subst, append_assoc, codes, decimal, Bool, true, false, arith, add-one}
use Rattle.std.proofs.lemmas.List.{append-nil, map-append, length-set}
use Rattle.nv_lines.specs.Line.{parts}
use Rattle.zo_cert_tree.proofs.ReadMultipliers.{line_of_parts}
use Rattle.zo_cert.specs.ReportText.{ones_from, x_line}

pub ones-none : (i : ℕ) (xs : List Bool) → ((k : ℕ) → get_or xs k false ≡ false) → ones_from i xs ≡ []
ones-none i [] h = refl
ones-none i (true ∷ xs) h = let e : true ≡ false = h 0 in cc
ones-none i (false ∷ xs) h = ones-none (suc i) xs (λ k. h (suc k))

-- one column more that is 1, after all others
pub ones-set : (i : ℕ) (xs : List Bool) (j : ℕ) → j < length xs → ((k : ℕ) → j ≤ k → get_or xs k false ≡ false) → ones_from i (set xs j true) ≡ ones_from i xs ++ (j + i) ∷ []
ones-set i [] j lt h = absurd (omega arith)
ones-set i (true ∷ xs) zero lt h = let e : true ≡ false = h 0 (omega arith) in cc
ones-set i (false ∷ xs) zero lt h =
    let none = ones-none (suc i) xs (λ k. h (suc k) (omega arith)) in
    ap (λ t. i ∷ t) none ∙ (ap (λ n. n ∷ []) (omega arith) ∙ ap (λ t. t ++ (0 + i) ∷ []) (sym none))
ones-set i (true ∷ xs) (suc j) lt h =
    ap (λ t. i ∷ t) (ones-set (suc i) xs j (omega arith) (λ k le. h (suc k) (omega arith)) ∙ ap (λ n. ones_from (suc i) xs ++ n ∷ []) (omega arith))
ones-set i (false ∷ xs) (suc j) lt h =
    ones-set (suc i) xs j (omega arith) (λ k le. h (suc k) (omega arith)) ∙ ap (λ n. ones_from (suc i) xs ++ n ∷ []) (omega arith)

get_or-blank : (n k : ℕ) → get_or (replicate n false) k false ≡ false
get_or-blank zero k = refl
get_or-blank (suc n) zero = refl
get_or-blank (suc n) (suc k) = get_or-blank n k

-- columns that rise, from lo on and below n
abbrev pub Up : ℕ → ℕ → List ℕ → Type 0
Up lo n [] = Unit {0}
Up lo n (j ∷ js) = (lo ≤ j) × (j < n) × Up (suc j) n js

-- so far these columns are 1, and from lo on none is
pub record ReadsOnes (all rest : List (List ℕ)) (on : List Bool) (columns lo : ℕ) : Type 0 where
  pub counted : length on ≡ columns
  pub spelled : all ≡ map decimal (ones_from 0 on) ++ rest
  pub blank : (k : ℕ) → lo ≤ k → get_or on k false ≡ false
  pub back : (js : List ℕ) → Up 0 columns (ones_from 0 on ++ js) → Up lo columns js

pub ones_start : (all : List (List ℕ)) (on : List Bool) (n : ℕ) → on ≡ replicate n false → length on ≡ n → ReadsOnes all all on n 0
ones_start all on n e counted =
    record {
      counted = counted;
      spelled = ap (λ t. map decimal t ++ all) (sym (ones-none 0 on (λ k. ap (λ xs. get_or xs k false) e ∙ get_or-blank n k)));
      blank = λ k le. ap (λ xs. get_or xs k false) e ∙ get_or-blank n k;
      back = λ js u. subst (λ t. Up 0 n (t ++ js)) (ones-none 0 on (λ k. ap (λ xs. get_or xs k false) e ∙ get_or-blank n k)) u;
    }

get_or-later : (xs : List Bool) (j k : ℕ) → j < k → get_or (set xs j true) k false ≡ get_or xs k false
get_or-later [] j k lt = refl
get_or-later (x ∷ xs) zero zero lt = absurd (omega arith)
get_or-later (x ∷ xs) zero (suc k) lt = refl
get_or-later (x ∷ xs) (suc j) zero lt = absurd (omega arith)
get_or-later (x ∷ xs) (suc j) (suc k) lt = get_or-later xs j k (omega arith)

pub ones_more : (all rest rest' : List (List ℕ)) (part : List ℕ) (on : List Bool) (columns lo j : ℕ) → ReadsOnes all rest on columns lo → rest ≡ part ∷ rest' → lo ≤ j → j < columns → part ≡ decimal j → ReadsOnes all rest' (set on j true) columns (j + 1)
ones_more all rest rest' part on columns lo j r e low high spelled =
    let ones : ones_from 0 (set on j true) ≡ ones_from 0 on ++ j ∷ [] =
    ones-set 0 on j (omega (arith, r.counted)) (λ k le. r.blank k (omega arith)) ∙ ap (λ n. ones_from 0 on ++ n ∷ []) (omega arith) in
    record {
      counted = length-set on j true ∙ r.counted;
      spelled = r.spelled ∙ (ap (λ x. map decimal (ones_from 0 on) ++ x) (e ∙ ap (λ x. x ∷ rest') spelled) ∙ (sym (append_assoc (map decimal (ones_from 0 on)) (decimal j ∷ []) rest') ∙ ap (λ x. x ++ rest') (sym (ap (map decimal) ones ∙ map-append decimal (ones_from 0 on) (j ∷ [])))));
      blank = λ k le. get_or-later on j k (omega arith) ∙ r.blank k (omega arith);
      back = λ js u.
          let w : Up lo columns (j ∷ js) = r.back (j ∷ js) (subst (Up 0 columns) (ap (λ t. t ++ js) ones ∙ append_assoc (ones_from 0 on) (j ∷ []) js) u) in
          rw add-one w.2;
    }

pub ones_all : (line : List ℕ) (all rest : List (List ℕ)) (on : List Bool) (columns lo : ℕ) → ReadsOnes all rest on columns lo → rest ≡ [] → parts line ≡ codes "x" ∷ all → (length on ≡ columns) × (line ≡ x_line on)
ones_all line all rest on columns lo r e f =
    (r.counted, line_of_parts line (codes "x" ∷ map decimal (ones_from 0 on)) (f ∙ ap (λ t. codes "x" ∷ t) (r.spelled ∙ (ap (λ x. map decimal (ones_from 0 on) ++ x) e ∙ append-nil (map decimal (ones_from 0 on))))))
