-- What is known of a node, by what is known of what follows.
use Rattle.std.proofs.Common.{◌≡◌, ℕ, ◌+◌, Bool, true, false, not, ◌&&◌, ◌||◌, max, List, [], ◌∷◌, ◌++◌, refl, sym, ap, ◌∙◌, length}
use Rattle.nv_base.specs.declared.term.Atom.{Atom}
use Rattle.nv_base.specs.declared.term.Cmp.{Cmp}
use Rattle.nv_base.specs.declared.term.Mem.{Mem}
use Rattle.nv_base.specs.declared.term.Primitive.{Primitive}
use Rattle.nv_base.specs.Words.{atom_vars, prim_vars}
use Rattle.nv_base.specs.Sets.{is_in, different, without, all_vars}
use Rattle.nv_base.specs.Measures.{operands_wide}
use Rattle.nv_base.proofs.Sets.{in-append, in-without}
use Rattle.flow_ir.specs.Tree.{Tree, Let, Read, Write, If}
use Rattle.flow_ir.specs.Wide.{live, tree_wide}
use Rattle.nova_middle.specs.declared.parts.Part.{Part}
use Rattle.nova_middle.specs.inner.Parts.{IsPart}
use Rattle.nova_middle.proofs.Members.{same_number_of, same_operands}

-- these, and what is left of some without others
left : (row mid spec gone : List ℕ) → ((y : ℕ) → is_in y mid ≡ (is_in y row && not (is_in y gone))) → ((y : ℕ) → is_in y row ≡ is_in y spec) → (y : ℕ) → is_in y mid ≡ is_in y (without spec gone)
left row mid spec gone was same y = was y ∙ ap (λ i. i && not (is_in y gone)) (same y) ∙ sym (in-without y spec gone)

both : (front mid new spec : List ℕ) → ((y : ℕ) → is_in y new ≡ (is_in y front || is_in y mid)) → ((y : ℕ) → is_in y mid ≡ is_in y spec) → (y : ℕ) → is_in y new ≡ is_in y (front ++ spec)
both front mid new spec now same y = now y ∙ ap (λ i. is_in y front || i) (same y) ∙ sym (in-append y front spec)

pub of_let : (rest r : Part) (x : ℕ) (p : Primitive) (mid : List ℕ) (n : ℕ) → ((y : ℕ) → is_in y mid ≡ (is_in y rest.live.xs.items && not (is_in y (x ∷ [])))) → ((y : ℕ) → is_in y r.live.xs.items ≡ (is_in y (prim_vars p) || is_in y mid)) → n ≡ different r.live.xs.items + 3 → r.width ≡ max n rest.width
    → (t : Tree) → IsPart rest t → IsPart r (Let x p t)
of_let rest r x p mid n was now count width t h =
    let members = both (prim_vars p) mid r.live.xs.items (without (live t) (x ∷ [])) now (left rest.live.xs.items mid (live t) (x ∷ []) was h.members) in
    record {
      members = members;
      width = width ∙ ap (λ k. max k rest.width) (count ∙ ap (λ k. k + 3) (same_number_of r.live.xs.items (prim_vars p ++ without (live t) (x ∷ [])) members)) ∙ ap (max (different (prim_vars p ++ without (live t) (x ∷ [])) + 3)) h.width;
    }

pub of_read : (rest r : Part) (xs : List ℕ) (a : Atom) (mid behind : List ℕ) (n k : ℕ) → ((y : ℕ) → is_in y mid ≡ (is_in y rest.live.xs.items && not (is_in y xs))) → n ≡ operands_wide mid (a ∷ []) → ((y : ℕ) → is_in y r.live.xs.items ≡ (is_in y (atom_vars a) || is_in y mid))
    → ((y : ℕ) → is_in y behind ≡ (is_in y xs || is_in y rest.live.xs.items)) → k ≡ different behind → r.width ≡ max (max n k) rest.width → (m : Mem) (t : Tree) → IsPart rest t → IsPart r (Read m xs a t)
of_read rest r xs a mid behind n k was node now more count width m t h =
    let gone = left rest.live.xs.items mid (live t) xs was h.members in
    record {
      members = both (atom_vars a) mid r.live.xs.items (without (live t) xs) now gone;
      width =
          width ∙ ap (λ i. max (max i k) rest.width) (node ∙ same_operands mid (without (live t) xs) (a ∷ []) gone)
          ∙ ap (λ i. max (max (operands_wide (without (live t) xs) (a ∷ [])) i) rest.width) (count ∙ same_number_of behind (xs ++ live t) (both xs rest.live.xs.items behind (live t) more h.members))
          ∙ ap (max (max (operands_wide (without (live t) xs) (a ∷ [])) (different (xs ++ live t)))) h.width;
    }

pub of_write : (rest r : Part) (list : List Atom) (n : ℕ) → n ≡ operands_wide rest.live.xs.items list → ((y : ℕ) → is_in y r.live.xs.items ≡ (is_in y (all_vars list) || is_in y rest.live.xs.items)) → r.width ≡ max n rest.width
    → (m : Mem) (a : Atom) (bs : List Atom) (t : Tree) → list ≡ a ∷ bs → IsPart rest t → IsPart r (Write m a bs t)
of_write rest r list n node now width m a bs t is h = record {
  members = λ y. both (all_vars list) rest.live.xs.items r.live.xs.items (live t) now h.members y ∙ ap (λ l. is_in y (all_vars l ++ live t)) is;
  width =
      width ∙ ap (λ i. max i rest.width) (node ∙ same_operands rest.live.xs.items (live t) list h.members ∙ ap (operands_wide (live t)) is)
      ∙ ap (max (operands_wide (live t) (a ∷ bs))) h.width;
}

pub of_if : (first rest r : Part) (a b : Atom) (mid : List ℕ) (n : ℕ) → ((y : ℕ) → is_in y mid ≡ (is_in y first.live.xs.items || is_in y rest.live.xs.items)) → n ≡ operands_wide mid (a ∷ b ∷ []) → ((y : ℕ) → is_in y r.live.xs.items ≡ (is_in y (all_vars (a ∷ b ∷ [])) || is_in y mid))
    → r.width ≡ max n (max first.width rest.width) → (c : Cmp) (t u : Tree) → IsPart first t → IsPart rest u → IsPart r (If c a b t u)
of_if first rest r a b mid n was node now width c t u f h =
    let arms : (y : ℕ) → is_in y mid ≡ is_in y (live t ++ live u) = λ y. was y ∙ ap (λ i. i || is_in y rest.live.xs.items) (f.members y) ∙ ap (λ i. is_in y (live t) || i) (h.members y) ∙ sym (in-append y (live t) (live u)) in
    record {
      members = both (all_vars (a ∷ b ∷ [])) mid r.live.xs.items (live t ++ live u) now arms;
      width =
          width ∙ ap (λ i. max i (max first.width rest.width)) (node ∙ same_operands mid (live t ++ live u) (a ∷ b ∷ []) arms)
          ∙ ap (λ i. max (operands_wide (live t ++ live u) (a ∷ b ∷ [])) (max i rest.width)) f.width
          ∙ ap (λ i. max (operands_wide (live t ++ live u) (a ∷ b ∷ [])) (max (tree_wide t) i)) h.width;
    }

pub of_end : (row new : List ℕ) (bs : List Atom) → row ≡ [] → ((y : ℕ) → is_in y new ≡ (is_in y (all_vars bs) || is_in y row)) → (y : ℕ) → is_in y new ≡ is_in y (all_vars bs)
of_end row new bs none now y = now y ∙ ap (λ l. is_in y (all_vars bs) || is_in y l) none ∙ nothing (is_in y (all_vars bs))
  where
    nothing : (b : Bool) → (b || false) ≡ b
    nothing true = refl
    nothing false = refl
