-- The listing of a lawful code is a text of it.
use Rattle.std.proofs.Common.{◌≡◌, ℕ, ◌+◌, ◌<◌, ◌≤◌, ◌⊎◌, inl, inr, get_or, List, [], ◌∷◌, ◌++◌, length, map, drop, refl, sym, ap, ◌∙◌, subst, arith}
use Rattle.std.specs.List.{All}
use Rattle.std.proofs.lemmas.Grind.{common_steps}
use Rattle.std.proofs.lemmas.List.{append-nil}
use Rattle.std.proofs.lemmas.Option.{slice_get_read, get_or_from_slice_get}
use Rattle.std.proofs.lemmas.List.Elements.{All-head, All-tail}
use Rattle.nv_lines.specs.Line.{text_of}
use Rattle.uc_isa.specs.Code.{CodeView, IsCode}
use Rattle.uc_isa.specs.Lawful.{IsLawful}
use Rattle.uc_isa.specs.declared.instruction.Instr.{Instr}
use Rattle.uc_asm.specs.Words.{InRange}
use Rattle.uc_asm.specs.Items.{Item, plain, count, item_line, instruction_line, params_line, Stands, Misnames}
use Rattle.uc_asm.specs.Text.{AreItems, Reads, listing}
use Rattle.uc_asm.specs.Labels.{AreNamed, AreResolved, IsCodeOf}
use Rattle.uc_asm.proofs.StandLemmas.{none-stands}

plain-lines : (list : List Instr) → map item_line (map plain list) ≡ map instruction_line list
plain-lines [] = refl
plain-lines (i ∷ list) = ap (λ (ls : List (List ℕ)). instruction_line i ∷ ls) (plain-lines list)

plain-items : (list : List Instr) → All InRange list → AreItems (map plain list)
plain-items [] h = tt
plain-items (i ∷ list) h = (All-head InRange i list h, plain-items list (All-tail InRange i list h))

plain-count : (list : List Instr) → count (map plain list) ≡ length list
plain-count [] = refl
plain-count (i ∷ list) = let e = plain-count list in omega arith

-- each item is an instruction
only-plain : (list : List Instr) (front back : List Item) (item : Item) → Stands (map plain list) front item back → (i : Instr) × (item ≡ plain i)
only-plain [] front back item s = absurd (none-stands front back item s)
only-plain (i ∷ list) [] back item s = let w = s.whole in let same : item ≡ plain i = cc in (i, same)
only-plain (i ∷ list) (x ∷ front) back item s = let w = s.whole in let rest : map plain list ≡ front ++ item ∷ back = cc in only-plain list front back item (record { whole = rest })

plain-good : (items front : List Item) (item : Item) (i : Instr) → item ≡ plain i → ¬ Misnames items front item
plain-good items front item i e m = subst (Misnames items front) e m

plain-named : (list : List Instr) → AreNamed (map plain list)
plain-named list front back item s = let found = only-plain list front back item s in plain-good (map plain list) front item found.0 found.1

plain-resolved : (all : List Item) (list : List Instr) → AreResolved all (map plain list) list
plain-resolved all [] = refl
plain-resolved all (i ∷ list) = (list, refl, plain-resolved all list)

listing-reads : (c : CodeView) → IsCode c → All InRange c.list → Reads (listing c) c.params (map plain c.list)
listing-reads c is fits = record {
  ls = params_line c.params ∷ map instruction_line c.list;
  spelled = refl;
  assembly = record {
    lines = ap (λ (ls : List (List ℕ)). params_line c.params ∷ ls) (sym (plain-lines c.list));
    few = is.params;
    each = plain-items c.list fits;
    some = let some = is.some in let e = plain-count c.list in omega arith;
  };
}

pub listing-is-text : (c : CodeView) → IsCode c → All InRange c.list → IsLawful c.list → IsCodeOf (listing c) c
listing-is-text c is fits lawful = record {
  items = map plain c.list;
  says = record { reads = listing-reads c is fits; named = plain-named c.list; resolved = plain-resolved (map plain c.list) c.list };
  lawful = lawful;
}

-- the numbers of the first k instructions fit their fields
abbrev pub FitBelow : ℕ → List Instr → Type 0
FitBelow k list = (j : ℕ) (d : Instr) → j < k → InRange (get_or list j d)

pub fit-more : (k : ℕ) (list : List Instr) (x : Instr) → k < length list → x ≡ get_or list k x → InRange x → FitBelow k list → FitBelow (k + 1) list
fit-more k list x l e fits below j d lt = by (sides j k lt)
  where
    sides : (m n : ℕ) → m < n + 1 → (m < n) ⊎ (m ≡ n)
    sides m n h = grind arith

    by : (j < k) ⊎ (j ≡ k) → InRange (get_or list j d)
    by (inl less) = below j d less
    by (inr same) =
        let here = get_or_from_slice_get list k x d (slice_get_read list (length list) k x refl l e) in
        subst InRange (sym (ap (λ (i : ℕ). get_or list i d) same ∙ here)) fits

pub printed-text : (bytes : List ℕ) (c : CodeView) (list : List Instr) (k : ℕ) → list ≡ c.list → length list ≤ k → bytes ++ text_of (map instruction_line (drop k list)) ≡ listing c → IsCode c → FitBelow k list → IsLawful c.list → IsCodeOf bytes c
printed-text bytes c list k same end e is fits lawful =
    let none : drop k list ≡ [] = grind (arith, common_steps) in
    let whole = sym (append-nil bytes) ∙ (ap (λ (rest : List Instr). bytes ++ text_of (map instruction_line rest)) (sym none) ∙ e) in
    let all : All InRange list = λ j d lt. fits j d (omega arith) in
    subst (λ (t : List ℕ). IsCodeOf t c) (sym whole) (listing-is-text c is (subst (All InRange) same all) lawful)
