-- The sizes of layouts, each out of the sizes of those before it.
use Rattle.std.proofs.Common.{inl, inr, ◌≡◌, ℕ, zero, suc, ◌+◌, ◌<◌, ◌≤◌, List, [], ◌∷◌, ◌++◌, refl, sym, ap, ◌∙◌, subst, length, take, get_or, map, min, Option, Some, None, length-append, arith}
use Rattle.std.proofs.Math.Seq.{take-append_seam}
use Rattle.std.proofs.Math.ListN.{get_or-map}
use Rattle.std.proofs.lemmas.List.{take_all, take-map, get_or-take, get_or_past, map-append}
use Rattle.std.proofs.lemmas.Bool.{cases_lt}
use Rattle.std.below.core.specs.declared.int.u64.TheConstants.{MAX}
use Rattle.nv_ast.specs.LayoutView.{layout_tree}
use Rattle.nv_ast.specs.Tests.{value_at}
use Rattle.nv_ast.specs.Outline.{OutlineTree, Layouts, outline, size, PartsOutline, no_named_outlines}
use Rattle.nv_ast.specs.Tree.{LayoutTree}
use Rattle.nv_meaning_values.specs.inner.Tables.{place_from, laid, layout_pairs}
use Rattle.nv_meaning_values.specs.inner.Sizes.{sizes_of, size_at, AreSizes}
use Rattle.nv_meaning_values.proofs.NameIndices.{Item, firsts, laid-front, laid-append, pairs-push, value-found, value-beyond, value-none, all-firsts}
use Rattle.nv_ast.proofs.Items.{take_item}

-- the first outlines are those of the first layouts
laid-take : (known : Layouts) (ls : List (List ℕ × LayoutTree)) (i : ℕ) → take (length known + i) (laid known ls) ≡ laid known (take i ls)
laid-take known [] zero = take_all (length known + 0) known (omega arith)
laid-take known [] (suc i) = take_all (length known + suc i) known (omega arith)
laid-take known (l ∷ ls) zero =
    let r = laid-front known (l ∷ ls) in
    let k : length known + 0 ≡ length known = omega arith in
    ap (λ n. take n (laid known (l ∷ ls))) k ∙ ap (λ m. take (length known) m) r.1 ∙ take-append_seam known r.0
laid-take known (l ∷ ls) (suc i) =
    let further : Layouts = known ++ (l.0, outline known l.1) ∷ [] in
    let k : length known + suc i ≡ length further + i = omega (arith, length-append known ((l.0, outline known l.1) ∷ [])) in
    ap (λ n. take n (laid further ls)) k ∙ laid-take further ls i

length-take : {A : Type 0} (n : ℕ) (xs : List A) → length (take n xs) ≤ n
length-take zero xs = omega arith
length-take (suc n) [] = omega arith
length-take (suc n) (x ∷ xs) = omega (arith, length-take n xs)

abbrev bits_of : List ℕ × OutlineTree → ℕ
bits_of l = min (size l.1) MAX

-- the layouts of a table, some places of names, and the first n sizes
module _ (xs : List Item) (p : List ℕ → Option ℕ) (found : (x : List ℕ) → p x ≡ place_from 0 x (map (λ l. l.0.now) xs)) (n : ℕ) where
  abbrev whole : Layouts
  whole = laid [] (layout_pairs xs)

  abbrev nothing : OutlineTree
  nothing = PartsOutline no_named_outlines

  abbrev missing : List ℕ × OutlineTree
  missing = ([], nothing)

  no-bits : bits_of missing ≡ 0
  no-bits = omega arith

  at-place : (x : List ℕ) (o : Option ℕ) → place_from 0 x (firsts whole) ≡ o → size_at (take n (sizes_of whole)) o ≡ min (size (value_at nothing x (take n whole))) MAX
  at-place x None e = sym (ap (λ o. min (size o) MAX) (value-none 0 n x nothing whole e) ∙ no-bits)
  at-place x (Some j) e =
      let s : j ≡ 0 + j = omega arith in
      let f = e ∙ ap (λ k. Some k) s in
      elim (cases_lt j n) [
        | inl inside ↦ (get_or-take n (sizes_of whole) j 0 inside ∙ ap (λ d. get_or (sizes_of whole) j d) (sym no-bits) ∙ get_or-map bits_of whole j missing ∙ ap (λ o. min (size o) MAX) (sym (value-found 0 j n x nothing whole missing f inside)))
        | inr past ↦ (get_or_past (take n (sizes_of whole)) j 0 (omega (arith, length-take n (sizes_of whole))) ∙ sym (ap (λ o. min (size o) MAX) (value-beyond 0 j n x nothing whole f past) ∙ no-bits))
      ]

  first-sizes : AreSizes p (take n (sizes_of whole)) (take n whole)
  first-sizes x = ap (size_at (take n (sizes_of whole))) (found x ∙ ap (λ k. place_from 0 x k) (sym (all-firsts xs x))) ∙ at-place x (place_from 0 x (firsts whole)) refl

  abbrev known : Layouts
  known = laid [] (layout_pairs (take n xs))

  -- the outlines of the first n layouts
  first-known : take n whole ≡ known
  first-known =
      let k : n ≡ 0 + n = omega arith in
      ap (λ m. take m whole) k ∙ laid-take [] (layout_pairs xs) n ∙ ap (laid []) (take-map (λ l. (l.0.now, layout_tree l.1.now)) n xs)

  -- their sizes are those of their names
  pub sizes-known : (sizes : List ℕ) → sizes ≡ sizes_of known → AreSizes p sizes known
  sizes-known sizes e =
      let f : take n (sizes_of whole) ≡ sizes = take-map bits_of n whole ∙ ap sizes_of first-known ∙ sym e in
      subst (λ ns. AreSizes p ns known) f (subst (λ k. AreSizes p (take n (sizes_of whole)) k) first-known first-sizes)

-- of all layouts
pub all-sizes : (xs : List Item) (p : List ℕ → Option ℕ) → ((x : List ℕ) → p x ≡ place_from 0 x (map (λ l. l.0.now) xs)) → (sizes : List ℕ) → sizes ≡ sizes_of (laid [] (layout_pairs xs)) → AreSizes p sizes (laid [] (layout_pairs xs))
all-sizes xs p found sizes e =
    let all : take (length xs) xs ≡ xs = take_all (length xs) xs (omega arith) in
    subst (λ ys. AreSizes p sizes (laid [] (layout_pairs ys))) all (sizes-known xs p found (length xs) sizes (e ∙ ap (λ ys. sizes_of (laid [] (layout_pairs ys))) (sym all)))

-- one size more
pub sizes-turn : (xs : List Item) (i : ℕ) (l : Item) (old new : List ℕ) (n : ℕ) → i < length xs → l ≡ get_or xs i l → old ≡ sizes_of (laid [] (layout_pairs (take i xs))) → n ≡ min (size (outline (laid [] (layout_pairs (take i xs))) (layout_tree l.1.now))) MAX → new ≡ old ++ n ∷ [] → new ≡ sizes_of (laid [] (layout_pairs (take (i + 1) xs)))
sizes-turn xs i l old new n h is before this e =
    let known : Layouts = laid [] (layout_pairs (take i xs)) in
    e ∙ ap (λ k. k ++ n ∷ []) before ∙ ap (λ k. sizes_of known ++ k ∷ []) this
    ∙ sym (ap (λ ys. sizes_of (laid [] (layout_pairs ys))) (take_item xs i l h is)
    ∙ ap (λ ys. sizes_of (laid [] ys)) (pairs-push (take i xs) (l ∷ []))
    ∙ ap sizes_of (laid-append [] (layout_pairs (take i xs)) (layout_pairs (l ∷ [])))
    ∙ map-append bits_of known ((l.0.now, outline known (layout_tree l.1.now)) ∷ []))
