-- Steps of loops that put one piece for each element behind others.
use Rattle.std.proofs.Common.{◌≡◌, Bool, true, false, cond, if◌then◌else◌, ◌||◌, ℕ, zero, suc, ◌+◌, ◌<◌, ◌≤◌, List, [], ◌∷◌, ◌++◌, length, map, take, drop, get_or, refl, sym, ap, ◌∙◌, append_assoc, arith}
use Rattle.std.specs.List.{flat_map, filter, list_any}
use Rattle.std.proofs.lemmas.List.{at_drop_more, at_drop_all, append-nil, map-append}
use Rattle.zo_model.specs.declared.program.Row.{Row}
use Rattle.zo_model.specs.Contents.{RowContents, row_contents}
use Rattle.nv_base.specs.declared.term.Mem.{Mem}
use Rattle.ssu_ir.specs.Points.{Point}
use Rattle.bank_prog_form.specs.Rows.{Line}
use Rattle.bank_prog_form.specs.Program.{Numbers, terms_of, row_of}
use Rattle.bank_prog_form.specs.Columns.{each_point, may_begin}
use Rattle.bank_prog_form.specs.inner.Adds.{Adds}
use Rattle.bank_prog_form.specs.inner.Form.{Part, part_of, beginning}

-- ---- lists

pub length-taken : {A B : Type 0} (f : A → B) (i : ℕ) (xs : List A) → i ≤ length xs → length (map f (take i xs)) ≡ i
length-taken f zero xs l = refl
length-taken f (suc i) [] l = absurd (omega arith)
length-taken f (suc i) (x ∷ xs) l = ap suc (length-taken f i xs (omega arith))

-- ---- a piece for each element

pub out-more : {V A X : Type 0} (f : A → List X) (view : V → A) (xs : List V) (i : ℕ) (d : V) (out out' goal : List X) → i < length xs → out' ≡ out ++ f (view (get_or xs i d))
    → out ++ flat_map f (map view (drop i xs)) ≡ goal → out' ++ flat_map f (map view (drop (i + 1) xs)) ≡ goal
out-more f view xs i d out out' goal l e h =
    ap (λ o. o ++ flat_map f (map view (drop (i + 1) xs))) e ∙ append_assoc out (f (view (get_or xs i d))) (flat_map f (map view (drop (i + 1) xs)))
    ∙ sym (at_drop_more (λ ys. out ++ flat_map f (map view ys)) xs i d l) ∙ h

pub out-all : {V A X : Type 0} (f : A → List X) (view : V → A) (xs : List V) (i : ℕ) (out goal : List X) → length xs ≤ i → out ++ flat_map f (map view (drop i xs)) ≡ goal → out ≡ goal
out-all f view xs i out goal l h = sym (append-nil out) ∙ sym (at_drop_all (λ ys. out ++ flat_map f (map view ys)) xs i l) ∙ h

-- the same over the elements themselves
pub plain-more : {V X : Type 0} (f : V → List X) (xs : List V) (i : ℕ) (d : V) (out out' goal : List X) → i < length xs → out' ≡ out ++ f (get_or xs i d)
    → out ++ flat_map f (drop i xs) ≡ goal → out' ++ flat_map f (drop (i + 1) xs) ≡ goal
plain-more f xs i d out out' goal l e h =
    ap (λ o. o ++ flat_map f (drop (i + 1) xs)) e ∙ append_assoc out (f (get_or xs i d)) (flat_map f (drop (i + 1) xs)) ∙ sym (at_drop_more (λ ys. out ++ flat_map f ys) xs i d l) ∙ h

pub plain-all : {V X : Type 0} (f : V → List X) (xs : List V) (i : ℕ) (out goal : List X) → length xs ≤ i → out ++ flat_map f (drop i xs) ≡ goal → out ≡ goal
plain-all f xs i out goal l h = sym (append-nil out) ∙ sym (at_drop_all (λ ys. out ++ flat_map f ys) xs i l) ∙ h

pub flat-filter : {X Y : Type 0} (p : X → Bool) (f : X → Y) (xs : List X) → flat_map (λ x. if p x then f x ∷ [] else []) xs ≡ map f (filter p xs)
flat-filter p f [] = refl
flat-filter p f (x ∷ xs) = pick (p x) (flat-filter p f xs)
  where
    pick : (b : Bool) → flat_map (λ x. if p x then f x ∷ [] else []) xs ≡ map f (filter p xs)
        → (if b then f x ∷ [] else []) ++ flat_map (λ x. if p x then f x ∷ [] else []) xs ≡ map f (cond b (x ∷ filter p xs) (filter p xs))
    pick true h = ap (λ ys. f x ∷ ys) h
    pick false h = h

pub map-itself : {X : Type 0} (xs : List X) → map (λ x. x) xs ≡ xs
map-itself [] = refl
map-itself (x ∷ xs) = ap (λ ys. x ∷ ys) (map-itself xs)

pub beginnings-filter : (m : Mem) (n : ℕ) (xs : List ℕ) → flat_map (beginning m n) xs ≡ filter (may_begin m n) xs
beginnings-filter m n xs = flat-filter (may_begin m n) (λ x. x) xs ∙ map-itself (filter (may_begin m n) xs)

-- one list after another
pub spend : {X : Type 0} (out out' x' x rest goal : List X) → out' ≡ out ++ x' → x' ≡ x → out ++ (x ++ rest) ≡ goal → out' ++ rest ≡ goal
spend out out' x' x rest goal e h g = ap (λ o. o ++ rest) (e ∙ ap (λ y. out ++ y) h) ∙ append_assoc out x rest ∙ g

pub spend-last : {X : Type 0} (out out' x' x goal : List X) → out' ≡ out ++ x' → x' ≡ x → out ++ x ≡ goal → out' ≡ goal
spend-last out out' x' x goal e h g = e ∙ ap (λ y. out ++ y) h ∙ g

-- ---- whether some element has it

pub any-more : {V A : Type 0} (p : A → Bool) (view : V → A) (xs : List V) (i : ℕ) (d : V) (goal : Bool) → i < length xs → p (view (get_or xs i d)) ≡ false
    → list_any p (map view (drop i xs)) ≡ goal → list_any p (map view (drop (i + 1) xs)) ≡ goal
any-more p view xs i d goal l e h =
    ap (λ b. b || list_any p (map view (drop (i + 1) xs))) (sym e) ∙ sym (at_drop_more (λ ys. list_any p (map view ys)) xs i d l) ∙ h

pub any-here : {V A : Type 0} (p : A → Bool) (view : V → A) (xs : List V) (i : ℕ) (d : V) (goal : Bool) → i < length xs → p (view (get_or xs i d)) ≡ true
    → list_any p (map view (drop i xs)) ≡ goal → true ≡ goal
any-here p view xs i d goal l e h =
    ap (λ b. b || list_any p (map view (drop (i + 1) xs))) (sym e) ∙ sym (at_drop_more (λ ys. list_any p (map view ys)) xs i d l) ∙ h

pub any-none : {V A : Type 0} (p : A → Bool) (view : V → A) (xs : List V) (i : ℕ) (goal : Bool) → length xs ≤ i → list_any p (map view (drop i xs)) ≡ goal → false ≡ goal
any-none p view xs i goal l h = sym (at_drop_all (λ ys. list_any p (map view ys)) xs i l) ∙ h

-- ---- an element for each

pub map-more : {V X : Type 0} (f : V → X) (xs : List V) (i : ℕ) (d : V) (out out' goal : List X) → i < length xs → out' ≡ out ++ f (get_or xs i d) ∷ []
    → out ++ map f (drop i xs) ≡ goal → out' ++ map f (drop (i + 1) xs) ≡ goal
map-more f xs i d out out' goal l e h =
    ap (λ o. o ++ map f (drop (i + 1) xs)) e ∙ append_assoc out (f (get_or xs i d) ∷ []) (map f (drop (i + 1) xs)) ∙ sym (at_drop_more (λ ys. out ++ map f ys) xs i d l) ∙ h

pub map-all : {V X : Type 0} (f : V → X) (xs : List V) (i : ℕ) (out goal : List X) → length xs ≤ i → out ++ map f (drop i xs) ≡ goal → out ≡ goal
map-all f xs i out goal l h = sym (append-nil out) ∙ sym (at_drop_all (λ ys. out ++ map f ys) xs i l) ∙ h

-- ---- rows

same-contents : (a b : RowContents) → a.terms ≡ b.terms → a.least ≡ b.least → a ≡ b
same-contents a b t l = ap (λ ts. record { terms = ts; least = a.least }) t ∙ ap (λ z. record { terms = b.terms; least = z }) l

-- one row was put after the others
pub pushed : (number : Numbers) (rows rows' : List Row) (r : Row) (l : Line) → rows' ≡ rows ++ r ∷ [] → r.terms.items ≡ terms_of number l.terms → r.least ≡ l.least → Adds number rows rows' (l ∷ [])
pushed number rows rows' r l p t e =
    ap (map row_contents) p ∙ map-append row_contents rows (r ∷ []) ∙ ap (λ z. map row_contents rows ++ z ∷ []) (same-contents (row_contents r) (row_of number l) t e)

pub adds-both : (number : Numbers) (a b c : List Row) (ls ms : List Line) → Adds number a b ls → Adds number b c ms → Adds number a c (ls ++ ms)
adds-both number a b c ls ms p q =
    q ∙ ap (λ o. o ++ map (row_of number) ms) p ∙ append_assoc (map row_contents a) (map (row_of number) ls) (map (row_of number) ms)
    ∙ ap (λ o. map row_contents a ++ o) (sym (map-append (row_of number) ls ms))

pub adds-as : (number : Numbers) (a b : List Row) (ls ms : List Line) → Adds number a b ls → ls ≡ ms → Adds number a b ms
adds-as number a b ls ms h e = h ∙ ap (λ xs. map row_contents a ++ map (row_of number) xs) e

pub adds-more : {V A : Type 0} (number : Numbers) (f : A → List Line) (view : V → A) (xs : List V) (i : ℕ) (d : V) (rows rows' : List Row) (goal : List RowContents) → i < length xs
    → Adds number rows rows' (f (view (get_or xs i d))) → map row_contents rows ++ map (row_of number) (flat_map f (map view (drop i xs))) ≡ goal
    → map row_contents rows' ++ map (row_of number) (flat_map f (map view (drop (i + 1) xs))) ≡ goal
adds-more number f view xs i d rows rows' goal l e h =
    ap (λ o. o ++ map (row_of number) (flat_map f (map view (drop (i + 1) xs)))) e
    ∙ append_assoc (map row_contents rows) (map (row_of number) (f (view (get_or xs i d)))) (map (row_of number) (flat_map f (map view (drop (i + 1) xs))))
    ∙ ap (λ o. map row_contents rows ++ o) (sym (map-append (row_of number) (f (view (get_or xs i d))) (flat_map f (map view (drop (i + 1) xs)))))
    ∙ sym (at_drop_more (λ ys. map row_contents rows ++ map (row_of number) (flat_map f (map view ys))) xs i d l) ∙ h

pub adds-all : {V A : Type 0} (number : Numbers) (f : A → List Line) (view : V → A) (xs : List V) (i : ℕ) (rows : List Row) (goal : List RowContents) → length xs ≤ i
    → map row_contents rows ++ map (row_of number) (flat_map f (map view (drop i xs))) ≡ goal → map row_contents rows ≡ goal
adds-all number f view xs i rows goal l h =
    sym (append-nil (map row_contents rows)) ∙ sym (at_drop_all (λ ys. map row_contents rows ++ map (row_of number) (flat_map f (map view ys))) xs i l) ∙ h

-- the same over the elements themselves
pub adds-plain-more : {V : Type 0} (number : Numbers) (f : V → List Line) (xs : List V) (i : ℕ) (d : V) (rows rows' : List Row) (goal : List RowContents) → i < length xs
    → Adds number rows rows' (f (get_or xs i d)) → map row_contents rows ++ map (row_of number) (flat_map f (drop i xs)) ≡ goal
    → map row_contents rows' ++ map (row_of number) (flat_map f (drop (i + 1) xs)) ≡ goal
adds-plain-more number f xs i d rows rows' goal l e h =
    ap (λ o. o ++ map (row_of number) (flat_map f (drop (i + 1) xs))) e
    ∙ append_assoc (map row_contents rows) (map (row_of number) (f (get_or xs i d))) (map (row_of number) (flat_map f (drop (i + 1) xs)))
    ∙ ap (λ o. map row_contents rows ++ o) (sym (map-append (row_of number) (f (get_or xs i d)) (flat_map f (drop (i + 1) xs))))
    ∙ sym (at_drop_more (λ ys. map row_contents rows ++ map (row_of number) (flat_map f ys)) xs i d l) ∙ h

pub adds-plain-all : {V : Type 0} (number : Numbers) (f : V → List Line) (xs : List V) (i : ℕ) (rows : List Row) (goal : List RowContents) → length xs ≤ i
    → map row_contents rows ++ map (row_of number) (flat_map f (drop i xs)) ≡ goal → map row_contents rows ≡ goal
adds-plain-all number f xs i rows goal l h =
    sym (append-nil (map row_contents rows)) ∙ sym (at_drop_all (λ ys. map row_contents rows ++ map (row_of number) (flat_map f ys)) xs i l) ∙ h

-- ---- points by what is kept of them

pub each-parts : {X : Type 0} (f : Part → List X) (g : ℕ → Point → List X) → ((k : ℕ) (q : Point) → f (part_of k q) ≡ g k q) → (k : ℕ) (ps : List Point)
    → flat_map f (each_point (λ k q. part_of k q ∷ []) k ps) ≡ each_point g k ps
each-parts f g h k [] = refl
each-parts f g h k (q ∷ ps) = ap (λ xs. xs ++ flat_map f (each_point (λ k q. part_of k q ∷ []) (suc k) ps)) (h k q) ∙ ap (λ ys. g k q ++ ys) (each-parts f g h (suc k) ps)
