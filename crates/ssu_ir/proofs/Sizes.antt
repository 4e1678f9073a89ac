-- A size as the labels' part and the trees'.
use Rattle.std.proofs.Common.{◌≡◌, ℕ, zero, suc, ◌+◌, ◌<◌, ◌≤◌, List, [], ◌∷◌, ◌++◌, length, take, get_or, refl, sym, ap, ◌∙◌, subst, arith}
use Rattle.std.proofs.lemmas.List.{take_more, take_all}
use Rattle.ssu_ir.specs.declared.node.SsuLabel.{SsuLabel}
use Rattle.ssu_ir.specs.declared.ssu.Ssu.{Ssu}
use Rattle.ssu_ir.specs.Tree.{Node}
use Rattle.ssu_ir.specs.Slots.{Placed, roots_of, bare_all, Formed, bodies}
use Rattle.ssu_ir.specs.View.{placed_of, with_bodies, labels_view}
use Rattle.ssu_ir.specs.Measures.{node_size, tree_size, size}
use Rattle.ssu_ir.specs.inner.Sizes.{entries_size}
use Rattle.ssu_ir.proofs.Reading.{read_in}
use Rattle.ssu_ir.proofs.Walks.{sum_trees, IsSum}

pub size-is_sum : IsSum node_size tree_size
size-is_sum = record { at_do = λ s t. refl; at_if = λ c x y t u. refl; at_end = λ l. refl }

size-parts : (ls : List SsuLabel) (ps : List Placed) → roots_of ps ≡ bodies ls → size (with_bodies ls (bare_all ps)) ≡ entries_size ls + sum_trees tree_size (bare_all ps)
size-parts [] [] e = refl
size-parts [] (p ∷ ps) e = absurd (cc)
size-parts (l ∷ ls) [] e = absurd (cc)
size-parts (l ∷ ls) (p ∷ ps) e =
    let rest : roots_of ps ≡ bodies ls = cc in
    omega (arith, size-parts ls ps rest)

pub size_split : (s : Ssu) → Formed s.nodes.slots (bodies s.labels.items) → size (labels_view s) ≡ entries_size s.labels.items + sum_trees tree_size (bare_all (placed_of s))
size_split s f = size-parts s.labels.items (placed_of s) (read_in s.nodes.slots (bodies s.labels.items) f).at_numbers

pub node_size-positive : (n : Node) → 0 < node_size n
node_size-positive n = omega arith

-- ---- a loop over the labels

entries-append : (a b : List SsuLabel) → entries_size (a ++ b) ≡ entries_size a + entries_size b
entries-append [] b = omega arith
entries-append (l ∷ a) b = omega (arith, entries-append a b)

entries-take : (i : ℕ) (ls : List SsuLabel) → entries_size (take i ls) ≤ entries_size ls
entries-take zero ls = omega arith
entries-take (suc i) [] = omega arith
entries-take (suc i) (l ∷ ls) = omega (arith, entries-take i ls)

pub entries_more : (ls its : List SsuLabel) (i : ℕ) (r : SsuLabel) → its ≡ ls → i < length its → r ≡ get_or its i r → entries_size (take (i + 1) ls) ≡ entries_size (take i ls) + (1 + length r.params.items)
entries_more ls its i r s l e =
    let w : entries_size (take (i + 1) its) ≡ entries_size (take i its) + entries_size (r ∷ []) = ap entries_size (take_more its i r l ∙ ap (λ m. take i its ++ m ∷ []) (sym e)) ∙ entries-append (take i its) (r ∷ []) in
    let one : entries_size (r ∷ []) ≡ 1 + length r.params.items + 0 = refl in
    let v : entries_size (take (i + 1) its) ≡ entries_size (take i its) + (1 + length r.params.items) = omega (arith, w, one) in
    subst (λ (k : List SsuLabel). entries_size (take (i + 1) k) ≡ entries_size (take i k) + (1 + length r.params.items)) s v

-- what is added stays within the whole
pub entries_all : (ls its : List SsuLabel) (i total : ℕ) → its ≡ ls → length its ≤ i → total ≡ entries_size (take i ls) → total ≡ entries_size ls
entries_all ls its i total s l t = t ∙ ap entries_size (take_all i ls (subst (λ (k : List SsuLabel). length k ≤ i) s l))
