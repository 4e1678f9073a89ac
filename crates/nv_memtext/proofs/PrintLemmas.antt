-- Texts that are written piece by piece.
use Rattle.std.proofs.Common.{◌≡◌, ℕ, ◌+◌, ◌-◌, ◌*◌, ◌<◌, ◌≤◌, List, [], ◌∷◌, ◌++◌, length, get_or, take, drop, map, sym, ap, ◌∙◌, arith, append_assoc, decimal, add-one, true, false, eqb, Result, OnOk}
use Rattle.std.proofs.lemmas.Result.{on_ok_weaker}
use Rattle.std.proofs.lemmas.List.{append-nil, take_all, length-drop}
use Rattle.std.proofs.lemmas.Grind.{take_at_read}
use Rattle.std.specs.List.{flat_map, list_all}
use Rattle.std.proofs.lemmas.List.Concat.{flat_map-append}
use Rattle.std.proofs.lemmas.List.Folds.{flat_map-map}
use Rattle.nv_lines.specs.Line.{text_of, parted}
use Rattle.nv_lines.specs.Number.{hex_word}
use Rattle.nv_lines.proofs.SplitLaws.{parted-cons, text_of-append}
use Rattle.nv_base.specs.declared.term.Mem.{Mem}
use Rattle.nv_base.specs.MemoryNames.{memory_name}
use Rattle.nv_memtext.specs.Places.{stretch_start}
use Rattle.nv_memtext.specs.OutcomeText.{stretch_line, stretch_lines, stretch_words, numbers_below}

-- one piece more
pub piece_more : {X : Type 0} (f : X → List ℕ) (start : List ℕ) (xs : List X) (i : ℕ) (x : X) → i < length xs → get_or xs i x ≡ x → (start ++ flat_map f (take i xs)) ++ f x ≡ start ++ flat_map f (take (i + 1) xs)
piece_more f start xs i x lt e =
    append_assoc start (flat_map f (take i xs)) (f x)
    ∙ ap (λ t. start ++ t) (ap (λ t. flat_map f (take i xs) ++ t) (sym (append-nil (f x))) ∙ (sym (flat_map-append f (take i xs) (x ∷ [])) ∙ ap (flat_map f) (ap (λ y. take i xs ++ y ∷ []) (sym e) ∙ sym (take_at_read xs i x lt).1)))

-- a line of words, each after a space
pub words_line : (p : List ℕ) (ws : List ℕ) → parted (p ∷ map hex_word ws) ≡ p ++ flat_map (λ w. 32 ∷ hex_word w) ws
words_line p ws = parted-cons p (map hex_word ws) ∙ ap (λ t. p ++ t) (flat_map-map (λ (q : List ℕ). 32 ∷ q) hex_word ws)

pub all_pieces : {X : Type 0} (f : X → List ℕ) (start : List ℕ) (xs : List X) (i : ℕ) → length xs ≤ i → start ++ flat_map f (take i xs) ≡ start ++ flat_map f xs
all_pieces f start xs i le = ap (λ t. start ++ flat_map f t) (take_all i xs le)

pub join2 : (i j k a b : List ℕ) → j ≡ i ++ a → k ≡ j ++ b → k ≡ i ++ (a ++ b)
join2 i j k a b e f = f ∙ (ap (λ t. t ++ b) e ∙ append_assoc i a b)

pub join3 : (i j k l a b c : List ℕ) → j ≡ i ++ a → k ≡ j ++ b → l ≡ k ++ c → l ≡ i ++ (a ++ (b ++ c))
join3 i j k l a b c e f g = join2 i j l a (b ++ c) e (join2 j k l b c f g)

pub join4 : (i j k l m a b c d : List ℕ) → j ≡ i ++ a → k ≡ j ++ b → l ≡ k ++ c → m ≡ l ++ d → m ≡ i ++ (a ++ (b ++ (c ++ d)))
join4 i j k l m a b c d e f g h = join2 i j m a (b ++ (c ++ d)) e (join3 j k l m b c d f g h)

pub join5 : (i j k l m n a b c d e : List ℕ) → j ≡ i ++ a → k ≡ j ++ b → l ≡ k ++ c → m ≡ l ++ d → n ≡ m ++ e → n ≡ i ++ (a ++ (b ++ (c ++ (d ++ e))))
join5 i j k l m n a b c d e p q r s t = join2 i j n a (b ++ (c ++ (d ++ e))) p (join4 j k l m n b c d e q r s t)

-- the pieces of a stretch's line
pub stretch_pieces : (m : Mem) (at : ℕ) (ws : List ℕ) → memory_name m ++ (32 ∷ (decimal at ++ (flat_map (λ w. 32 ∷ hex_word w) ws ++ 10 ∷ []))) ≡ stretch_line m at ws ++ 10 ∷ []
stretch_pieces m at ws =
    ap (λ t. memory_name m ++ (32 ∷ t)) (sym (append_assoc (decimal at) (flat_map (λ w. 32 ∷ hex_word w) ws) (10 ∷ [])) ∙ ap (λ t. t ++ 10 ∷ []) (sym (words_line (decimal at) ws)))
    ∙ sym (append_assoc (memory_name m) (32 ∷ parted (decimal at ∷ map hex_word ws)) (10 ∷ []))

pub listed_pieces : (p : List ℕ) (ws : List ℕ) → p ++ (flat_map (λ w. 32 ∷ hex_word w) ws ++ 10 ∷ []) ≡ parted (p ∷ map hex_word ws) ++ 10 ∷ []
listed_pieces p ws = sym (append_assoc p (flat_map (λ w. 32 ∷ hex_word w) ws) (10 ∷ [])) ∙ ap (λ t. t ++ 10 ∷ []) (sym (words_line p ws))

pub piece_as : {E : Type 0} (r : Result (Unit {0}) E) (old new x y : List ℕ) → x ≡ y → OnOk r (new ≡ old ++ x) → OnOk r (new ≡ old ++ y)
piece_as r old new x y e h = on_ok_weaker r (λ k. k ∙ ap (λ t. old ++ t) e) h

pub blank_part : (m : Mem) (ws : List ℕ) (k : ℕ) (part out : List ℕ) → part ≡ stretch_words ws k → true ≡ list_all (λ w. eqb w 0) part → out ≡ out ++ text_of (stretch_lines m ws k)
blank_part m ws k part out e h =
    let t : list_all (λ w. eqb w 0) (stretch_words ws k) ≡ true = ap (list_all (λ w. eqb w 0)) (sym e) ∙ sym h in
    rw t (sym (append-nil out))

pub filled_part : (m : Mem) (ws : List ℕ) (k at : ℕ) (part old new : List ℕ) → part ≡ stretch_words ws k → at ≡ stretch_start m k → false ≡ list_all (λ w. eqb w 0) part → new ≡ old ++ (stretch_line m at part ++ 10 ∷ []) → new ≡ old ++ text_of (stretch_lines m ws k)
filled_part m ws k at part old new e f h g =
    let t : list_all (λ w. eqb w 0) (stretch_words ws k) ≡ false = ap (list_all (λ w. eqb w 0)) (sym e) ∙ sym h in
    rw t (g ∙ ap (λ x. old ++ x) (ap (λ a. stretch_line m a part ++ 10 ∷ []) f ∙ (ap (λ p. stretch_line m (stretch_start m k) p ++ 10 ∷ []) e ∙ sym (append-nil (stretch_line m (stretch_start m k) (stretch_words ws k) ++ 10 ∷ [])))))

pub memory_more : (m : Mem) (ws start out out' : List ℕ) (k : ℕ) → out ≡ start ++ text_of (flat_map (stretch_lines m ws) (numbers_below k)) → out' ≡ out ++ text_of (stretch_lines m ws k) → out' ≡ start ++ text_of (flat_map (stretch_lines m ws) (numbers_below (k + 1)))
memory_more m ws start out out' k e f =
    rw add-one (
    join2 start out out' (text_of (flat_map (stretch_lines m ws) (numbers_below k))) (text_of (stretch_lines m ws k)) e f
    ∙ ap (λ t. start ++ t) (
    sym (text_of-append (flat_map (stretch_lines m ws) (numbers_below k)) (stretch_lines m ws k))
    ∙ ap text_of (ap (λ t. flat_map (stretch_lines m ws) (numbers_below k) ++ t) (sym (append-nil (stretch_lines m ws k))) ∙ sym (flat_map-append (stretch_lines m ws) (numbers_below k) (k ∷ [])))))

-- a text after a text
pub text_more : (start : List ℕ) (ls ms : List (List ℕ)) (i j : List ℕ) → i ≡ start ++ text_of ls → j ≡ i ++ text_of ms → j ≡ start ++ text_of (ls ++ ms)
text_more start ls ms i j e f = join2 start i j (text_of ls) (text_of ms) e f ∙ ap (λ t. start ++ t) (sym (text_of-append ls ms))

-- a line and a text
pub log_pieces : (start w : List ℕ) (ws : List (List ℕ)) (i j : List ℕ) → i ≡ start ++ (w ++ 10 ∷ []) → j ≡ i ++ text_of ws → j ≡ start ++ text_of (w ∷ ws)
log_pieces start w ws i j e f = text_more start (w ∷ []) ws i j (e ∙ ap (λ t. start ++ t) (sym (append-nil (w ++ 10 ∷ [])))) f

-- a line and three texts
pub packet_pieces : (start s : List ℕ) (m1 m2 m3 : List (List ℕ)) (i4 i5 i6 i7 : List ℕ) → i4 ≡ start ++ (s ++ 10 ∷ []) → i5 ≡ i4 ++ text_of m1 → i6 ≡ i5 ++ text_of m2 → i7 ≡ i6 ++ text_of m3 → i7 ≡ start ++ text_of (s ∷ m1 ++ m2 ++ m3)
packet_pieces start s m1 m2 m3 i4 i5 i6 i7 e4 e5 e6 e7 =
    let t5 : i5 ≡ start ++ text_of (s ∷ m1) = log_pieces start s m1 i4 i5 e4 e5 in
    let t6 = text_more start (s ∷ m1) m2 i5 i6 t5 e6 in
    text_more start ((s ∷ m1) ++ m2) m3 i6 i7 t6 e7

-- the line of an outcome, that of a name, and the others
pub named_pieces : (o : List ℕ) (names rest : List (List ℕ)) (i1 i2 i3 : List ℕ) → i1 ≡ o ++ 10 ∷ [] → i2 ≡ i1 ++ text_of names → i3 ≡ i2 ++ text_of rest → i3 ≡ text_of (o ∷ names ++ rest)
named_pieces o names rest i1 i2 i3 e f g = join2 (o ++ 10 ∷ []) i2 i3 (text_of names) (text_of rest) (f ∙ ap (λ t. t ++ text_of names) e) g ∙ ap (λ t. (o ++ 10 ∷ []) ++ t) (sym (text_of-append names rest))

-- a stretch's words, read in two cuts
pub part_is : (ws : List ℕ) (k : ℕ) (part : List ℕ) → part ≡ take 8 (take (length ws - 8 * k) (drop (8 * k) ws)) → part ≡ stretch_words ws k
part_is ws k part e = e ∙ ap (take 8) (take_all (length ws - 8 * k) (drop (8 * k) ws) (omega (arith, length-drop (8 * k) ws)))
