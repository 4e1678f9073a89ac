use Rattle.std.proofs.Common.{◌≡◌, ◌∙◌, ◌++◌, ◌∷◌, [], ap, sym, subst, true, false, cond, Some, List, ℕ, slice_get, bytes_eq, Bool, refl}
use Rattle.std.specs.List.{list_any}
use Rattle.std.specs.Borrow.{Bor}
use Rattle.std.specs.Cmp.Lexicographic.{bytes_decides}
use Rattle.nv_types_table.specs.inner.Cells.{IsTable}
use Rattle.nv_types_table.specs.inner.Named.{plain_names}
use Rattle.nv_types_table.specs.inner.Store.{Store, Extends}
use Rattle.nv_types_table.proofs.Growing.{IsTable-name, Extends-names, Extends-refl}
use Rattle.nv_types_table.proofs.Found.{name_at, plain-append, any_name, absent_name}
use Rattle.nv_types_table.proofs.table.Table.name_number.Goals as goal

-- the names after an insertion: the same, or one more that wasn't there
insertion : (P : List (List ℕ) → Type 0) (old new : List (Bor (List ℕ))) (x : Bor (List ℕ)) (b : Bool)
    → list_any (λ k. bytes_eq x.now k.now) old ≡ b → new ≡ cond b old (old ++ x ∷ [])
    → P (plain_names old) → (((i : ℕ) → slice_get (plain_names old) i ≡ Some x.now → ⊥) → P (plain_names old ++ x.now ∷ [])) → P (plain_names new)
insertion P old new x true any e same more = subst (λ l. P (plain_names l)) (sym e) same
insertion P old new x false any e same more =
    subst (λ l. P (plain_names l)) (sym e) (subst P (sym (plain-append old (x ∷ []))) (more (absent_name (plain_names old) x.now (sym (any_name old x.now) ∙ any))))

pub invariant_of-self-2 : goal.invariant_of-self-2
invariant_of-self-2 c =
    let cells = c.self.inside.cells.keys in
    let facts = c.self.inside.facts.items in
    let P : List (List ℕ) → Type 0 = λ l. IsTable l c.self.inside.cells.keys c.self.inside.facts.items in
    insertion P c.self.inside.names.keys c.insert_full.new.self.keys c.args.name _ refl c.in_ok-i.ensures.keys c.self.invariant
    (λ new. IsTable-name (plain_names c.self.inside.names.keys) cells facts c.args.name.now c.self.invariant new)

pub returns-clause-there : goal.returns-clause-there
returns-clause-there c =
    let s = c.in_ok-i.ensures.stored in
    name_at c.insert_full.new.self.keys c.in_ok-i.i s.0 s.1 ∙ ap Some (sym ((bytes_decides c.args.name.now s.0.now).0 s.2))

pub returns-clause-grows : goal.returns-clause-grows
returns-clause-grows c =
    let cells = c.self.inside.cells.keys in
    let old = plain_names c.self.inside.names.keys in
    let P : List (List ℕ) → Type 0 = λ l. Extends (record { names = plain_names c.self.inside.names.keys; cells = c.self.inside.cells.keys }) (record { names = l; cells = c.self.inside.cells.keys }) in
    subst (λ (s : Store). Extends s (record { names = plain_names c.insert_full.new.self.keys; cells = c.self.inside.cells.keys })) c.self.view_is
    (insertion P c.self.inside.names.keys c.insert_full.new.self.keys c.args.name _ refl c.in_ok-i.ensures.keys (Extends-refl _) (λ new. Extends-names old (c.args.name.now ∷ []) cells))
