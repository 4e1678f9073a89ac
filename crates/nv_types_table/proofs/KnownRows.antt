-- What a table knows of a list of fields, by what it knows of their types.
use Rattle.std.proofs.Common.{◌≡◌, ◌∙◌, refl, ap, sym, subst, ℕ, ◌+◌, max, Bool, true, false, ◌||◌, List, [], ◌∷◌, ◌++◌, Some, slice_get, arith}
use Rattle.std.proofs.lemmas.Option.{get_or_from_slice_get}
use Rattle.nv_ast.specs.Types.{NamedTys, no_named_tys, named_ty_and, total_named_words, highest_named_ty, has_bool, some_named_bool}
use Rattle.nv_types_table.specs.declared.table.Facts.{Facts}
use Rattle.nv_types_table.specs.declared.table.Cell.{Cell}
use Rattle.nv_types_table.specs.declared.table.Cell.TheVariants.{NoFields, Field, Both}
use Rattle.nv_types_table.specs.inner.Cells.{nothing, fact_at, lone, with_front, cell_facts, IsTable}
use Rattle.nv_types_table.specs.inner.Rows.{Row, one, both, leaves, grown}
use Rattle.nv_types_table.specs.inner.Store.{Stands, IsRow, fields_then}
use Rattle.nv_types_table.specs.inner.Knowing.{IsKnown, KnowsFields}
use Rattle.nv_types_table.proofs.Rows.{leaves_row}

pub fact_is : (names : List (List ℕ)) (cells : List Cell) (facts : List Facts) → IsTable names cells facts → (i : ℕ) (c : Cell) → slice_get cells i ≡ Some c → fact_at facts i ≡ cell_facts facts c
fact_is names cells facts is i c h = get_or_from_slice_get facts i (cell_facts facts c) nothing (is.known i c h)

-- what is known of the types of some fields
abbrev pub KnowCells : List Facts → List (ℕ × ℕ) → NamedTys → Type 0
KnowCells facts [] no_named_tys = Unit {0}
KnowCells facts (p ∷ ps) (named_ty_and x t ts) = IsKnown (fact_at facts p.1) t × KnowCells facts ps ts
KnowCells facts _ _ = ⊥

know_split : (facts : List Facts) (ps qs : List (ℕ × ℕ)) (ts : NamedTys) → KnowCells facts (ps ++ qs) ts → (us vs : NamedTys) × (ts ≡ fields_then us vs) × KnowCells facts ps us × KnowCells facts qs vs
know_split facts [] qs ts h = (no_named_tys, ts, refl, tt, h)
know_split facts (p ∷ ps) qs no_named_tys h = absurd h
know_split facts (p ∷ ps) qs (named_ty_and x t ts) h =
    let v = know_split facts ps qs ts h.1 in
    (named_ty_and x t v.0, v.1, ap (named_ty_and x t) v.2, (h.0, v.3), v.4)

-- ---- the words, the height and the bools of two lists one after the other
words_then : (ts us : NamedTys) → total_named_words (fields_then ts us) ≡ total_named_words ts + total_named_words us
words_then no_named_tys us = omega arith
words_then (named_ty_and x t ts) us = omega (arith, words_then ts us)

height_then : (ts us : NamedTys) → highest_named_ty (fields_then ts us) ≡ max (highest_named_ty ts) (highest_named_ty us)
height_then no_named_tys us = omega arith
height_then (named_ty_and x t ts) us = omega (arith, height_then ts us)

or_assoc : (a b c : Bool) → (a || (b || c)) ≡ ((a || b) || c)
or_assoc true b c = refl
or_assoc false b c = refl

bool_then : (ts us : NamedTys) → some_named_bool (fields_then ts us) ≡ (some_named_bool ts || some_named_bool us)
bool_then no_named_tys us = refl
bool_then (named_ty_and x t ts) us = ap (λ b. has_bool t || b) (bool_then ts us) ∙ or_assoc (has_bool t) (some_named_bool ts) (some_named_bool us)

pub or_false : (a : Bool) → a ≡ (a || false)
or_false true = refl
or_false false = refl

known_lone : (f g : Facts) (x : List ℕ) (ts : NamedTys) → f ≡ lone g → KnowsFields g ts → KnowsFields f ts
known_lone f g x ts e k = subst (λ (y : Facts). KnowsFields y ts) (sym e) (record { of_words = k.of_words; of_height = k.of_height; of_bool = k.of_bool })

known_both : (f g h : Facts) (ts us : NamedTys) → f ≡ with_front false g h → KnowsFields g ts → KnowsFields h us → KnowsFields f (fields_then ts us)
known_both f g h ts us e k l = subst (λ (y : Facts). KnowsFields y (fields_then ts us)) (sym e) (record {
  of_words = omega (arith, k.of_words, l.of_words, words_then ts us);
  of_height = omega (arith, k.of_height, l.of_height, height_then ts us);
  of_bool = ap (λ b. b || h.has_bool) k.of_bool ∙ ap (λ b. some_named_bool ts || b) l.of_bool ∙ sym (bool_then ts us);
})

known_tree : (names : List (List ℕ)) (cells : List Cell) (facts : List Facts) → IsTable names cells facts → (i : ℕ) (t : Row) (ts : NamedTys) → Stands (record { names = names; cells = cells }) i t → KnowCells facts (leaves t) ts → KnowsFields (fact_at facts i) ts
known_tree names cells facts is i (one p) no_named_tys h k = absurd k
known_tree names cells facts is i (one p) (named_ty_and x t (named_ty_and y u us)) h k = absurd k.1
known_tree names cells facts is i (one p) (named_ty_and x t no_named_tys) h k =
    known_lone (fact_at facts i) (fact_at facts p.1) x (named_ty_and x t no_named_tys) (fact_is names cells facts is i (Field p.0 p.1) h) (record {
      of_words = omega (arith, k.0.of_words);
      of_height = omega (arith, k.0.of_height);
      of_bool = k.0.of_bool ∙ or_false (has_bool t);
    })
known_tree names cells facts is i (both t u) ts h k =
    let v = know_split facts (leaves t) (leaves u) ts k in
    subst (KnowsFields (fact_at facts i)) (sym v.2)
    (known_both (fact_at facts i) (fact_at facts h.0) (fact_at facts h.1) v.0 v.1 (fact_is names cells facts is i (Both h.0 h.1) h.2)
    (known_tree names cells facts is h.0 t v.0 h.3 v.3) (known_tree names cells facts is h.1 u v.1 h.4 v.4))

pub known_row : (names : List (List ℕ)) (cells : List Cell) (facts : List Facts) → IsTable names cells facts → (i : ℕ) (ps : List (ℕ × ℕ)) (ts : NamedTys) → IsRow (record { names = names; cells = cells }) i ps → KnowCells facts ps ts → KnowsFields (fact_at facts i) ts
known_row names cells facts is i [] no_named_tys h k = subst (λ (f : Facts). KnowsFields f no_named_tys) (sym (ap (fact_at facts) h ∙ fact_is names cells facts is 3 NoFields is.no_fields)) (record { of_words = refl; of_height = refl; of_bool = refl })
known_row names cells facts is i [] (named_ty_and x t ts) h k = absurd k
known_row names cells facts is i (p ∷ ps) ts h k = known_tree names cells facts is i (grown [] p ps) ts h (subst (λ l. KnowCells facts l ts) (sym (leaves_row p ps)) k)
