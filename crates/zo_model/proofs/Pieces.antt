-- Texts that are written piece by piece.
use Rattle.std.proofs.Common.{◌≡◌, ℕ, suc, ◌+◌, ◌<◌, List, [], ◌∷◌, ◌++◌, length, get_or, take, map, refl, sym, ap, ◌∙◌, append_assoc, codes}
use Rattle.std.proofs.lemmas.List.{append-nil, map-append}
use Rattle.std.proofs.lemmas.Grind.{take_at_read}
use Rattle.std.specs.Fmt.{signed_decimal}
use Rattle.std.specs.List.{flat_map}
use Rattle.std.proofs.lemmas.List.Concat.{flat_map-append}
use Rattle.std.proofs.lemmas.List.Folds.{flat_map-map}
use Rattle.nv_lines.specs.Line.{text_of, parted}
use Rattle.nv_lines.proofs.SplitLaws.{parted-cons, text_of-append}
use Rattle.zo_model.specs.Contents.{RowContents}
use Rattle.zo_model.specs.ProgramText.{term_text, row_line}

-- one element more
pub take_next : {X : Type 0} (xs : List X) (i : ℕ) (d x : X) → i < length xs → x ≡ get_or xs i d → take (i + 1) xs ≡ take i xs ++ x ∷ []
take_next xs i d x lt e = (take_at_read xs i d lt).1 ∙ ap (λ y. take i xs ++ y ∷ []) (sym e)

-- one piece more
pub piece_more : {X A : Type 0} (f : X → List A) (start : List A) (xs : List X) (i : ℕ) (d x : X) → i < length xs → x ≡ get_or xs i d → (start ++ flat_map f (take i xs)) ++ f x ≡ start ++ flat_map f (take (i + 1) xs)
piece_more f start xs i d x lt e =
    append_assoc start (flat_map f (take i xs)) (f x)
    ∙ ap (λ t. start ++ t) (ap (λ t. flat_map f (take i xs) ++ t) (sym (append-nil (f x))) ∙ (sym (flat_map-append f (take i xs) (x ∷ [])) ∙ ap (flat_map f) (sym (take_next xs i d x lt e))))

-- one line more
pub line_more : {X Y : Type 0} (g : X → Y) (f : Y → List ℕ) (start : List ℕ) (xs : List X) (i : ℕ) (d x : X) → i < length xs → x ≡ get_or xs i d → (start ++ text_of (map f (map g (take i xs)))) ++ (f (g x) ++ 10 ∷ []) ≡ start ++ text_of (map f (map g (take (i + 1) xs)))
line_more g f start xs i d x lt e =
    append_assoc start (text_of (map f (map g (take i xs)))) (f (g x) ++ 10 ∷ [])
    ∙ ap (λ t. start ++ t) (
    ap (λ t. text_of (map f (map g (take i xs))) ++ t) (sym (append-nil (f (g x) ++ 10 ∷ [])))
    ∙ (sym (text_of-append (map f (map g (take i xs))) (f (g x) ∷ []))
    ∙ ap text_of (sym (ap (map f) (ap (map g) (take_next xs i d x lt e) ∙ map-append g (take i xs) (x ∷ [])) ∙ map-append f (map g (take i xs)) (g x ∷ [])))))

pub map_same : {X : Type 0} (xs : List X) → map (λ (x : X). x) xs ≡ xs
map_same [] = refl
map_same (x ∷ xs) = ap (λ t. x ∷ t) (map_same xs)

-- one line more, of the elements as they are
pub line_next : {X : Type 0} (f : X → List ℕ) (start : List ℕ) (xs : List X) (i : ℕ) (d x : X) → i < length xs → x ≡ get_or xs i d → (start ++ text_of (map f (take i xs))) ++ (f x ++ 10 ∷ []) ≡ start ++ text_of (map f (take (i + 1) xs))
line_next f start xs i d x lt e =
    ap (λ t. (start ++ text_of (map f t)) ++ (f x ++ 10 ∷ [])) (sym (map_same (take i xs)))
    ∙ (line_more (λ y. y) f start xs i d x lt e ∙ ap (λ t. start ++ text_of (map f t)) (map_same (take (i + 1) xs)))

pub join2 : (i j k a b : List ℕ) → j ≡ i ++ a → k ≡ j ++ b → k ≡ i ++ (a ++ b)
join2 i j k a b e f = f ∙ (ap (λ t. t ++ b) e ∙ append_assoc i a b)

pub join3 : (i j k l a b c : List ℕ) → j ≡ i ++ a → k ≡ j ++ b → l ≡ k ++ c → l ≡ i ++ (a ++ (b ++ c))
join3 i j k l a b c e f g = join2 i j l a (b ++ c) e (join2 j k l b c f g)

pub join4 : (i j k l m a b c d : List ℕ) → j ≡ i ++ a → k ≡ j ++ b → l ≡ k ++ c → m ≡ l ++ d → m ≡ i ++ (a ++ (b ++ (c ++ d)))
join4 i j k l m a b c d e f g h = join2 i j m a (b ++ (c ++ d)) e (join3 j k l m b c d f g h)

-- a line of parts, each after a space
pub listed_pieces : {X : Type 0} (p : List ℕ) (f : X → List ℕ) (xs : List X) → p ++ (flat_map (λ x. 32 ∷ f x) xs ++ 10 ∷ []) ≡ parted (p ∷ map f xs) ++ 10 ∷ []
listed_pieces p f xs =
    sym (append_assoc p (flat_map (λ x. 32 ∷ f x) xs) (10 ∷ []))
    ∙ ap (λ t. t ++ 10 ∷ []) (ap (λ t. p ++ t) (sym (flat_map-map (λ (q : List ℕ). 32 ∷ q) f xs)) ∙ sym (parted-cons p (map f xs)))

-- the pieces of a row's line
pub row_pieces : (r : RowContents) → codes "r " ++ (signed_decimal r.least ++ (flat_map (λ t. 32 ∷ term_text t) r.terms ++ 10 ∷ [])) ≡ row_line r ++ 10 ∷ []
row_pieces r = ap (λ t. codes "r " ++ t) (listed_pieces (signed_decimal r.least) term_text r.terms)

-- the pieces of a program
pub program_pieces : (n m : List ℕ) (cs rs : List (List ℕ)) → (n ++ 10 ∷ []) ++ ((m ++ 10 ∷ []) ++ (text_of cs ++ text_of rs)) ≡ text_of (n ∷ m ∷ cs ++ rs)
program_pieces n m cs rs = ap (λ t. (n ++ 10 ∷ []) ++ ((m ++ 10 ∷ []) ++ t)) (sym (text_of-append cs rs))

pub length-map' : {X Y : Type 0} (f : X → Y) (xs : List X) → length xs ≡ length (map f xs)
length-map' f [] = refl
length-map' f (x ∷ xs) = ap suc (length-map' f xs)
