-- A list is split one way at the first byte c, and a text is parted into lines one way.
use Rattle.std.proofs.Common.{◌≡◌, ◌≢◌, ℕ, List, [], ◌∷◌, ◌++◌, refl, sym, ap, ◌∙◌, subst, append_assoc, Bool, true, false, not, ◌&&◌, eqb}
use Rattle.std.proofs.lemmas.List.{append-nil, append_cancel_left}
use Rattle.std.specs.List.{flat_map, list_all}
use Rattle.std.proofs.lemmas.Bool.{eq-eqb}
use Rattle.nv_lines.specs.Line.{Lacks, AllLack, text_of, parts, parted}
use Rattle.std.proofs.lemmas.List.Splits.{join_with_byte-slice_split}
use Rattle.nv_lines.proofs.LineLemmas.{parts_at, parts_whole}

pub Lacks-append : (c : ℕ) (xs ys : List ℕ) → Lacks c xs → Lacks c ys → Lacks c (xs ++ ys)
Lacks-append c [] ys h k = k
Lacks-append c (x ∷ xs) ys h k = (h.0, Lacks-append c xs ys h.1 k)

pub Lacks-front : (c : ℕ) (xs ys : List ℕ) → Lacks c (xs ++ ys) → Lacks c xs
Lacks-front c [] ys h = tt
Lacks-front c (x ∷ xs) ys h = (h.0, Lacks-front c xs ys h.1)

pub Lacks-back : (c : ℕ) (xs ys : List ℕ) → Lacks c (xs ++ ys) → Lacks c ys
Lacks-back c [] ys h = h
Lacks-back c (x ∷ xs) ys h = Lacks-back c xs ys h.1

pub AllLack-append : (c : ℕ) (xs ys : List (List ℕ)) → AllLack c xs → AllLack c ys → AllLack c (xs ++ ys)
AllLack-append c [] ys h k = k
AllLack-append c (x ∷ xs) ys h k = (h.0, AllLack-append c xs ys h.1 k)

pub AllLack-front : (c : ℕ) (xs ys : List (List ℕ)) → AllLack c (xs ++ ys) → AllLack c xs
AllLack-front c [] ys h = tt
AllLack-front c (x ∷ xs) ys h = (h.0, AllLack-front c xs ys h.1)

pub AllLack-back : (c : ℕ) (xs ys : List (List ℕ)) → AllLack c (xs ++ ys) → AllLack c ys
AllLack-back c [] ys h = h
AllLack-back c (x ∷ xs) ys h = AllLack-back c xs ys h.1

-- where c stands in a list, the list doesn't lack it
pub lacks_not : (c : ℕ) (xs ys zs : List ℕ) → Lacks c zs → xs ++ c ∷ ys ≡ zs → ⊥
lacks_not c xs ys zs h e =
    let all : Lacks c (xs ++ c ∷ ys) = subst (Lacks c) (sym e) h in
    (Lacks-back c xs (c ∷ ys) all).0 refl

-- the front up to the first c is one, and so is what follows
pub split_one : (c : ℕ) (xs ys us vs : List ℕ) → Lacks c xs → Lacks c us → xs ++ c ∷ ys ≡ us ++ c ∷ vs → (xs ≡ us) × (ys ≡ vs)
split_one c [] ys [] vs h k e = (refl, cc)
split_one c [] ys (u ∷ us) vs h k e = absurd (k.0 (cc))
split_one c (x ∷ xs) ys [] vs h k e = absurd (h.0 (cc))
split_one c (x ∷ xs) ys (u ∷ us) vs h k e =
    let head : x ≡ u = cc in
    let tail : xs ++ c ∷ ys ≡ us ++ c ∷ vs = cc in
    let r = split_one c xs ys us vs h.1 k.1 tail in
    (cc (r.0, head), r.1)

pub text_of-append : (xs ys : List (List ℕ)) → text_of (xs ++ ys) ≡ text_of xs ++ text_of ys
text_of-append [] ys = refl
text_of-append (x ∷ xs) ys = ap (λ t. (x ++ 10 ∷ []) ++ t) (text_of-append xs ys) ∙ sym (append_assoc (x ++ 10 ∷ []) (text_of xs) (text_of ys))

-- one line before a text
pub text_of-cons : (x : List ℕ) (xs : List (List ℕ)) (t : List ℕ) → text_of (x ∷ xs) ++ t ≡ x ++ 10 ∷ (text_of xs ++ t)
text_of-cons x xs t = append_assoc (x ++ 10 ∷ []) (text_of xs) t ∙ append_assoc x (10 ∷ []) (text_of xs ++ t)

-- one line after a text
pub text_of-push : (xs : List (List ℕ)) (x t : List ℕ) → text_of (xs ++ x ∷ []) ++ t ≡ text_of xs ++ (x ++ 10 ∷ t)
text_of-push xs x t =
    ap (λ u. u ++ t) (text_of-append xs (x ∷ [])) ∙ (append_assoc (text_of xs) (text_of (x ∷ [])) t ∙ ap (λ u. text_of xs ++ u) (text_of-cons x [] t))

-- how two lists of lines lie, of which each begins the same text: they are one, or one goes on
pub data Lie (xs ys : List (List ℕ)) : Type 0 where
  same : xs ≡ ys → Lie xs ys
  longer : (y : List ℕ) (more : List (List ℕ)) → ys ≡ xs ++ y ∷ more → Lie xs ys
  shorter : (x : List ℕ) (more : List (List ℕ)) → xs ≡ ys ++ x ∷ more → Lie xs ys

pub lie_cons : (x : List ℕ) (xs ys : List (List ℕ)) → Lie xs ys → Lie (x ∷ xs) (x ∷ ys)
lie_cons x xs ys (same e) = same (ap (λ t. x ∷ t) e)
lie_cons x xs ys (longer y more e) = longer y more (ap (λ t. x ∷ t) e)
lie_cons x xs ys (shorter y more e) = shorter y more (ap (λ t. x ∷ t) e)

pub lie : (xs ys : List (List ℕ)) (a b : List ℕ) → AllLack 10 xs → AllLack 10 ys → text_of xs ++ a ≡ text_of ys ++ b → Lie xs ys
lie [] [] a b h k e = same refl
lie [] (y ∷ ys) a b h k e = longer y ys refl
lie (x ∷ xs) [] a b h k e = shorter x xs refl
lie (x ∷ xs) (y ∷ ys) a b h k e =
    let split = split_one 10 x (text_of xs ++ a) y (text_of ys ++ b) h.0 k.0 (sym (text_of-cons x xs a) ∙ (e ∙ text_of-cons y ys b)) in
    subst (λ z. Lie (x ∷ xs) (z ∷ ys)) split.0 (lie_cons x xs ys (lie xs ys a b h.1 k.1 split.1))

-- what follows the same lines is the same
pub after_same : (xs ys : List (List ℕ)) (a b : List ℕ) → xs ≡ ys → text_of xs ++ a ≡ text_of ys ++ b → a ≡ b
after_same xs ys a b same_lines e =
    append_cancel_left (text_of xs) a b (e ∙ ap (λ ls. text_of ls ++ b) (sym same_lines))

-- what follows fewer lines begins with the next
pub after_longer : (xs more : List (List ℕ)) (y a b : List ℕ) → text_of xs ++ a ≡ text_of (xs ++ y ∷ more) ++ b → a ≡ y ++ 10 ∷ (text_of more ++ b)
after_longer xs more y a b e =
    append_cancel_left (text_of xs) a (y ++ 10 ∷ (text_of more ++ b))
    (e ∙ (ap (λ t. t ++ b) (text_of-append xs (y ∷ more)) ∙ (append_assoc (text_of xs) (text_of (y ∷ more)) b ∙ ap (λ t. text_of xs ++ t) (text_of-cons y more b))))

-- a text of whole lines and a last one that isn't whole is parted one way
pub lines_one : (xs ys : List (List ℕ)) (a b : List ℕ) → AllLack 10 xs → AllLack 10 ys → Lacks 10 a → Lacks 10 b → text_of xs ++ a ≡ text_of ys ++ b → (xs ≡ ys) × (a ≡ b)
lines_one xs ys a b hx hy ha hb e =
    elim (lie xs ys a b hx hy e) [
      | same s ↦ (s, after_same xs ys a b s e)
      | longer y more s ↦ absurd (lacks_not 10 y (text_of more ++ b) a ha (sym (after_longer xs more y a b (e ∙ ap (λ ls. text_of ls ++ b) s))))
      | shorter x more s ↦ absurd (lacks_not 10 x (text_of more ++ a) b hb (sym (after_longer ys more x b a (sym e ∙ ap (λ ls. text_of ls ++ a) s))))
    ]

-- the parts of a line are those that were put together
pub parts-parted : (p : List ℕ) (ps : List (List ℕ)) → AllLack 32 (p ∷ ps) → parts (parted (p ∷ ps)) ≡ p ∷ ps
parts-parted p [] h = parts_whole p h.0
parts-parted p (q ∷ ps) h = parts_at p (parted (q ∷ ps)) h.0 ∙ ap (λ t. p ∷ t) (parts-parted q ps h.1)

pub parted-parts : (line : List ℕ) → parted (parts line) ≡ line
parted-parts line = join_with_byte-slice_split 32 line

-- a line is parted one way
pub parted_one : (p q : List ℕ) (ps qs : List (List ℕ)) → AllLack 32 (p ∷ ps) → AllLack 32 (q ∷ qs) → parted (p ∷ ps) ≡ parted (q ∷ qs) → p ∷ ps ≡ q ∷ qs
parted_one p q ps qs h k e = sym (parts-parted p ps h) ∙ (ap parts e ∙ parts-parted q qs k)

-- a byte that is no space stands in no line whose parts lack it
pub Lacks-parted : (c : ℕ) (ps : List (List ℕ)) → c ≢ 32 → AllLack c ps → Lacks c (parted ps)
Lacks-parted c [] other h = tt
Lacks-parted c (p ∷ []) other h = h.0
Lacks-parted c (p ∷ q ∷ ps) other h =
    Lacks-append c p (32 ∷ parted (q ∷ ps)) h.0 (λ e. other (sym e), Lacks-parted c (q ∷ ps) other h.1)

-- a line of parts begins with the first, and each other stands after a space
pub parted-cons : (p : List ℕ) (ps : List (List ℕ)) → parted (p ∷ ps) ≡ p ++ flat_map (λ q. 32 ∷ q) ps
parted-cons p [] = sym (append-nil p)
parted-cons p (q ∷ qs) = ap (λ t. p ++ 32 ∷ t) (parted-cons q qs)

-- a test tells what a literal lacks
pub Lacks-test : (c : ℕ) (xs : List ℕ) → list_all (λ b. not (eqb b c)) xs ≡ true → Lacks c xs
Lacks-test c [] h = tt
Lacks-test c (x ∷ xs) h =
    (λ e. first (eqb x c) (eq-eqb x c e) h, Lacks-test c xs (others (not (eqb x c)) h))
  where
    first : (b : Bool) → b ≡ true → (not b && list_all (λ b. not (eqb b c)) xs) ≡ true → ⊥
    first true e h = cc
    first false e h = cc

    others : (b : Bool) → (b && list_all (λ b. not (eqb b c)) xs) ≡ true → list_all (λ b. not (eqb b c)) xs ≡ true
    others true h = h
    others false h = cc
