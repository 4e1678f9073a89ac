-- Sums and greatest of fields, as they are counted and as outlines have them.
use Rattle.std.proofs.Common.{◌≡◌, ◌∙◌, refl, ap, subst, ℕ, ◌+◌, ◌<◌, ◌≤◌, min, max, Bool, true, false, ◌&&◌, List, [], ◌∷◌, ◌++◌, take, drop, length, get_or, arith, length-append}
use Rattle.std.specs.Prelude.{◌==◌}
use Rattle.std.specs.Borrow.{Bor}
use Rattle.std.specs.List.{list_all}
use Rattle.nv_ast.specs.Outline.{OutlineTree, OutlineTrees, outline_and, NamedOutlines, no_named_outlines, named_outline_and, size, total_named_size, longest, highest_named_outline, bit_fields, part_fields, alternative_fields, joined_fields, sizes_of}
use Rattle.nv_ast.specs.Tests.{all_same}
use Rattle.nv_ast.proofs.Items.{take_item, split_item}
use Rattle.nv_ast.proofs.FieldCounts.{parts_length, joined_length}
use Rattle.nv_types_table.specs.declared.shapes.Member.{Member}
use Rattle.nv_types_table.specs.inner.Cells.{most, still}
use Rattle.nv_types_table.specs.inner.Named.{named}
use Rattle.nv_types_table.specs.inner.Store.{Store}
use Rattle.nv_types_table.specs.inner.Layouts.{AreMembers}

-- a field with its name
abbrev pub Entry : Type 0
Entry = Bor (List ℕ) × Member

-- ---- sums and greatest of a number of each field
abbrev pub sum_of : (Member → ℕ) → List Entry → ℕ
sum_of f [] = 0
sum_of f (m ∷ ms) = f m.1 + sum_of f ms

abbrev pub most_of : (Member → ℕ) → List Entry → ℕ
most_of f [] = 0
most_of f (m ∷ ms) = max (f m.1) (most_of f ms)

sum-append : (f : Member → ℕ) (xs ys : List Entry) → sum_of f (xs ++ ys) ≡ sum_of f xs + sum_of f ys
sum-append f [] ys = omega arith
sum-append f (x ∷ xs) ys = ap (λ n. f x.1 + n) (sum-append f xs ys) ∙ sum_assoc (f x.1) (sum_of f xs) (sum_of f ys)
  where
    sum_assoc : (a b c : ℕ) → a + (b + c) ≡ (a + b) + c
    sum_assoc a b c = omega arith

most-append : (f : Member → ℕ) (xs ys : List Entry) → most_of f (xs ++ ys) ≡ max (most_of f xs) (most_of f ys)
most-append f [] ys = omega arith
most-append f (x ∷ xs) ys = ap (λ n. max (f x.1) n) (most-append f xs ys) ∙ max_assoc (f x.1) (most_of f xs) (most_of f ys)
  where
    max_assoc : (a b c : ℕ) → max a (max b c) ≡ max (max a b) c
    max_assoc a b c = omega arith

pub sum_more : (f : Member → ℕ) (xs : List Entry) (i : ℕ) (x : Entry) (old new : ℕ) → i < length xs → x ≡ get_or xs i x → old ≡ still (sum_of f (take i xs)) → new ≡ min (old + f x.1) most → new ≡ still (sum_of f (take (i + 1) xs))
sum_more f xs i x old new h e before after =
    let more : sum_of f (take (i + 1) xs) ≡ sum_of f (take i xs) + (f x.1 + 0) = ap (sum_of f) (take_item xs i x h e) ∙ sum-append f (take i xs) (x ∷ []) in
    omega (arith, more, before, after)

pub most_more : (f : Member → ℕ) (xs : List Entry) (i : ℕ) (x : Entry) (old new : ℕ) → i < length xs → x ≡ get_or xs i x → old ≡ most_of f (take i xs) → new ≡ max old (f x.1) → new ≡ most_of f (take (i + 1) xs)
most_more f xs i x old new h e before after =
    let more : most_of f (take (i + 1) xs) ≡ max (most_of f (take i xs)) (max (f x.1) 0) = ap (most_of f) (take_item xs i x h e) ∙ most-append f (take i xs) (x ∷ []) in
    omega (arith, more, before, after)

-- ---- how many bit fields there are: those of the first outline and of the others
pub joined_front : (o : OutlineTree) (os : OutlineTrees) → length (joined_fields 0 (outline_and o os)) ≡ length (bit_fields 0 o) + length (joined_fields 0 os)
joined_front o os = omega (arith, length-append (bit_fields 0 o) (joined_fields (0 + size o) os), joined_length (0 + size o) 0 os)

-- ---- they are those of the outlines
pub bits_total : (s : Store) (ms : List Entry) (os : NamedOutlines) → AreMembers s (named ms) os → still (sum_of (λ m. m.bits) ms) ≡ still (total_named_size os)
bits_total s [] no_named_outlines h = refl
bits_total s [] (named_outline_and x o os) h = absurd h
bits_total s (m ∷ ms) no_named_outlines h = absurd h
bits_total s (m ∷ ms) (named_outline_and x o os) h = omega (arith, h.1.of_bits, bits_total s ms os h.2)

pub fields_total : (s : Store) (ms : List Entry) (os : NamedOutlines) → AreMembers s (named ms) os → still (sum_of (λ m. m.fields) ms) ≡ still (length (part_fields 0 os))
fields_total s [] no_named_outlines h = refl
fields_total s [] (named_outline_and x o os) h = absurd h
fields_total s (m ∷ ms) no_named_outlines h = absurd h
fields_total s (m ∷ ms) (named_outline_and x o os) h = omega (arith, h.1.of_fields, fields_total s ms os h.2, length-append (bit_fields 0 o) (part_fields (0 + size o) os), parts_length (0 + size o) 0 os)

pub alternatives_total : (s : Store) (ms : List Entry) (os : NamedOutlines) → AreMembers s (named ms) os → still (sum_of (λ m. m.fields) ms) ≡ still (length (alternative_fields 0 os))
alternatives_total s [] no_named_outlines h = refl
alternatives_total s [] (named_outline_and x o os) h = absurd h
alternatives_total s (m ∷ ms) no_named_outlines h = absurd h
alternatives_total s (m ∷ ms) (named_outline_and x o os) h = omega (arith, h.1.of_fields, alternatives_total s ms os h.2, length-append (bit_fields 0 o) (alternative_fields 0 os))

pub bits_most : (s : Store) (ms : List Entry) (os : NamedOutlines) → AreMembers s (named ms) os → most_of (λ m. m.bits) ms ≡ still (longest os)
bits_most s [] no_named_outlines h = refl
bits_most s [] (named_outline_and x o os) h = absurd h
bits_most s (m ∷ ms) no_named_outlines h = absurd h
bits_most s (m ∷ ms) (named_outline_and x o os) h = omega (arith, h.1.of_bits, bits_most s ms os h.2)

pub height_most : (s : Store) (ms : List Entry) (os : NamedOutlines) → AreMembers s (named ms) os → most_of (λ m. m.height) ms ≡ still (highest_named_outline os)
height_most s [] no_named_outlines h = refl
height_most s [] (named_outline_and x o os) h = absurd h
height_most s (m ∷ ms) no_named_outlines h = absurd h
height_most s (m ∷ ms) (named_outline_and x o os) h = omega (arith, h.1.of_height, height_most s ms os h.2)

-- no alternative is over 1,024 bits
pub most_short : (s : Store) (ms : List Entry) (os : NamedOutlines) → AreMembers s (named ms) os → longest os ≤ 1024
most_short s [] no_named_outlines h = omega arith
most_short s [] (named_outline_and x o os) h = absurd h
most_short s (m ∷ ms) no_named_outlines h = absurd h
most_short s (m ∷ ms) (named_outline_and x o os) h = omega (arith, h.1.short, most_short s ms os h.2)

-- ---- fields of one size
abbrev pub all_have : ℕ → List Entry → Bool
all_have n [] = true
all_have n (m ∷ ms) = (m.1.bits == n) && all_have n ms

have-append : (n : ℕ) (xs ys : List Entry) → all_have n (xs ++ ys) ≡ (all_have n xs && all_have n ys)
have-append n [] ys = refl
have-append n (x ∷ xs) ys = ap (λ b. (x.1.bits == n) && b) (have-append n xs ys) ∙ and_assoc (x.1.bits == n) (all_have n xs) (all_have n ys)
  where
    and_assoc : (a b c : Bool) → (a && (b && c)) ≡ ((a && b) && c)
    and_assoc true b c = refl
    and_assoc false b c = refl

pub have_more : (xs : List Entry) (i : ℕ) (p : Entry) (n : ℕ) → i < length xs → p ≡ get_or xs i p → all_have n (take i xs) ≡ true → (p.1.bits == n) ≡ true → all_have n (take (i + 1) xs) ≡ true
have_more xs i p n h e before here =
    ap (all_have n) (take_item xs i p h e) ∙ have-append n (take i xs) (p ∷ []) ∙ ap (λ b. b && ((p.1.bits == n) && true)) before ∙ ap (λ b. b && true) here

pub have_other : (xs : List Entry) (i : ℕ) (p : Entry) (n : ℕ) → i < length xs → p ≡ get_or xs i p → all_have n (take i xs) ≡ true → (p.1.bits == n) ≡ false → all_have n xs ≡ false
have_other xs i p n h e before here =
    ap (all_have n) (split_item xs i p h e) ∙ have-append n (take i xs) (p ∷ drop (i + 1) xs) ∙ ap (λ b. b && ((p.1.bits == n) && all_have n (drop (i + 1) xs))) before ∙ ap (λ b. b && all_have n (drop (i + 1) xs)) here

exactly : (m n : ℕ) → m ≡ still n → n ≤ 1024 → m ≡ n
exactly m n e h = omega (arith, e, h)

have_sizes : (s : Store) (n : ℕ) (ms : List Entry) (os : NamedOutlines) → AreMembers s (named ms) os → all_have n ms ≡ list_all (λ m. m == n) (sizes_of os)
have_sizes s n [] no_named_outlines h = refl
have_sizes s n [] (named_outline_and x o os) h = absurd h
have_sizes s n (m ∷ ms) no_named_outlines h = absurd h
have_sizes s n (m ∷ ms) (named_outline_and x o os) h =
    ap (λ k. (k == n) && all_have n ms) (exactly m.1.bits (size o) h.1.of_bits h.1.short) ∙ ap (λ b. (size o == n) && b) (have_sizes s n ms os h.2)

pub no_sizes : (s : Store) (ms : List Entry) (os : NamedOutlines) → length ms ≡ 0 → AreMembers s (named ms) os → true ≡ all_same (sizes_of os)
no_sizes s [] no_named_outlines e h = refl
no_sizes s [] (named_outline_and x o os) e h = absurd h
no_sizes s (m ∷ ms) os e h = absurd (let none : ⊥ = omega (arith, e) in none)

pub one_size : (s : Store) (ms : List Entry) (first : Entry) (others : List Entry) (os : NamedOutlines) → ms ≡ first ∷ others → AreMembers s (named ms) os → all_have first.1.bits others ≡ all_same (sizes_of os)
one_size s ms first others os e h = by os (subst (λ (l : List Entry). AreMembers s (named l) os) e h)
  where
    by : (us : NamedOutlines) → AreMembers s (named (first ∷ others)) us → all_have first.1.bits others ≡ all_same (sizes_of us)
    by no_named_outlines k = absurd k
    by (named_outline_and x o us) k = have_sizes s first.1.bits others us k.2 ∙ ap (λ n. list_all (λ m. m == n) (sizes_of us)) (exactly first.1.bits (size o) k.1.of_bits k.1.short)
