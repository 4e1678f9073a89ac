use Rattle.std.proofs.Common.{◌≡◌, ◌∙◌, ◌<◌, ◌≤◌, ap, sym, false, length, Some, slice_get, arith, rules}
use Rattle.std.proofs.lemmas.Bool.{eq-eqb, ne_eqb}
use Rattle.nv_types_table.specs.declared.table.Cell.TheVariants.{Word, Record, Choice, Field}
use Rattle.nv_types_table.proofs.TypeCells.{pack_word, pack_record, pack_choice, pack_record_none, pack_choice_none, is_form_cell, pack_no_form}
use Rattle.nv_types_table.proofs.FieldPacking.{pack_start, pack_end, pack_short, pack_other, pack_wrong, pack_next, pack_here, one_none, one_some, choice_one, choice_none, is_field_cell, packed_there, packed_more, pair_same}
use Rattle.nv_types_scopes.proofs.packing.+pack.Goals as goal

pub can_pack-returns-then-contains-clause-packs : goal.can_pack-returns-then-contains-clause-packs
can_pack-returns-then-contains-clause-packs t c = λ f u h k.
    sym (packed_there c.args.table.now _ c.args.form c.args.t (λ p e. pair_same c.args.form c.args.t p e) c.args.known.now.keys (sym c.contains.ensures ∙ c.if-contains.true) c.requires.known f u h k)

pub can_pack-returns-then-not-packs-clause-packs : goal.can_pack-returns-then-not-packs-clause-packs
can_pack-returns-then-not-packs-clause-packs t c = λ f u h k. sym c.if-not-packs.true ∙ c.in_ok-packs.ensures.packs f u h k

pub can_pack-returns-clause-packs : goal.can_pack-returns-clause-packs
can_pack-returns-clause-packs t c = λ f u h k. sym c.if-not-packs.false ∙ c.in_ok-packs.ensures.packs f u h k

pub can_pack-returns-clause-still_known : goal.can_pack-returns-clause-still_known
can_pack-returns-clause-still_known t c =
    packed_more c.args.table.now c.packs.new.known.keys c.insert.new.self.keys (c.args.form, c.args.t) _ c.in_ok-insert.ensures.keys c.in_ok-packs.ensures.still_known
    (λ f u h k. sym (c.in_ok-packs.ensures.packs f u h k) ∙ c.if-not-packs.false)

pub packs-returns-in-Some-Word-clause-packs : goal.packs-returns-in-Some-Word-clause-packs
packs-returns-in-Some-Word-clause-packs t c =
    let at : slice_get c.args.table.now.cells c.args.form ≡ Some Word = cc in
    pack_word c.args.table.now c.in-Some-Word.ensures.store c.args.form c.args.t at

pub packs-returns-in-Some-clause-packs : goal.packs-returns-in-Some-clause-packs
packs-returns-in-Some-clause-packs t c =
    let at : slice_get c.args.table.now.cells c.args.form ≡ Some (Record c.in-Some-Record.forms) = cc in
    pack_record c.args.table.now c.in-Some-Record.ensures.store c.args.form c.args.t c.in-Some-Record.forms c.in-Some.fields c.can_pack_all.result at (sym c.in-Some.ensures.value) c.can_pack_all.ensures.packs

pub packs-returns-in-None-clause-packs : goal.packs-returns-in-None-clause-packs
packs-returns-in-None-clause-packs t c =
    let at : slice_get c.args.table.now.cells c.args.form ≡ Some (Record c.in-Some-Record.forms) = cc in
    pack_record_none c.args.table.now c.in-Some-Record.ensures.store c.args.form c.args.t c.in-Some-Record.forms at (sym c.in-None.ensures.value)

pub packs-returns-in-Some-record_fields-clause-packs : goal.packs-returns-in-Some-record_fields-clause-packs
packs-returns-in-Some-record_fields-clause-packs t c =
    let at : slice_get c.args.table.now.cells c.args.form ≡ Some (Choice c.in-Some-Choice.forms) = cc in
    pack_choice c.args.table.now c.in-Some-Choice.ensures.store c.args.form c.args.t c.in-Some-Choice.forms c.in-Some-record_fields.fields c.can_pack_choice.result at (sym c.in-Some-record_fields.ensures.value) c.can_pack_choice.ensures.packs

pub packs-returns-in-None-record_fields-clause-packs : goal.packs-returns-in-None-record_fields-clause-packs
packs-returns-in-None-record_fields-clause-packs t c =
    let at : slice_get c.args.table.now.cells c.args.form ≡ Some (Choice c.in-Some-Choice.forms) = cc in
    pack_choice_none c.args.table.now c.in-Some-Choice.ensures.store c.args.form c.args.t c.in-Some-Choice.forms at (sym c.in-None-record_fields.ensures.value)

pub packs-returns-in_default : goal.packs-returns-in_default
packs-returns-in_default t c =
    let other : is_form_cell c.cell.result ≡ false = search rules in
    record {
      packs = pack_no_form c.args.table.now c.cell.ensures.store c.args.form c.args.t (ap is_form_cell (sym c.cell.ensures.value) ∙ other);
      still_known = c.requires.known;
    }

pub packs-returns-in_default-2-clause-packs : goal.packs-returns-in_default-2-clause-packs
packs-returns-in_default-2-clause-packs t c =
    pack_no_form c.args.table.now c.cell.ensures.store c.args.form c.args.t (ap is_form_cell (sym c.cell.ensures.value ∙ c.in_default.is))

pub packs-can_pack_all-requires : goal.packs-can_pack_all-requires
packs-can_pack_all-requires t c =
    let at : slice_get c.args.table.now.cells c.args.form ≡ Some (Record c.in-Some-Record.forms) = cc in
    let less : c.in-Some-Record.forms < c.args.form = c.in-Some-Record.ensures.store.below c.args.form (Record c.in-Some-Record.forms) at in
    (omega (arith, c.decreases, less), c.requires.known)

pub packs-can_pack_choice-requires : goal.packs-can_pack_choice-requires
packs-can_pack_choice-requires t c =
    let at : slice_get c.args.table.now.cells c.args.form ≡ Some (Choice c.in-Some-Choice.forms) = cc in
    let less : c.in-Some-Choice.forms < c.args.form = c.in-Some-Choice.ensures.store.below c.args.form (Choice c.in-Some-Choice.forms) at in
    (omega (arith, c.decreases, less), c.requires.known)

-- ---- forms and fields
pub can_pack_all-returns-then-len-clause-packs : goal.can_pack_all-returns-then-len-clause-packs
can_pack_all-returns-then-len-clause-packs t c =
    pack_short c.args.table.now c.args.forms c.args.fields c.in_ok-forms.forms.items c.in_ok-fields.fields.items c.in_ok-forms.ensures.cells c.in_ok-fields.ensures.cells (λ e. c.if-len.true (omega (arith, e)))

pub can_pack_all-loop-i-init : goal.can_pack_all-loop-i-init
can_pack_all-loop-i-init t c = record {
  known = c.requires.known;
  so = pack_start c.args.table.now c.args.forms c.args.fields c.in_ok-forms.forms.items c.in_ok-fields.fields.items c.in_ok-forms.ensures.cells c.in_ok-fields.ensures.cells;
}

pub can_pack_all-returns-then-x-y-clause-packs : goal.can_pack_all-returns-then-x-y-clause-packs
can_pack_all-returns-then-x-y-clause-packs t c =
    let p = c.index.result.now in
    let q = c.index-in-loop-i.result.now in
    let inside : c.loop-i.i < length c.in_ok-forms.forms.items = omega arith in
    let along : c.loop-i.i < length c.in_ok-fields.fields.items = omega arith in
    pack_other c.args.table.now c.in_ok-forms.ensures.store c.args.forms c.args.fields p q _ _
    (pack_here c.args.table.now c.args.forms c.args.fields c.in_ok-forms.forms.items c.in_ok-fields.fields.items c.loop-i.i p q inside along c.index.ensures c.index-in-loop-i.ensures c.loop-i.invariant.so)
    (ne_eqb p.0 q.0 c.if-x-y.true)

pub can_pack_all-returns-then-not-packs-clause-packs : goal.can_pack_all-returns-then-not-packs-clause-packs
can_pack_all-returns-then-not-packs-clause-packs t c =
    let p = c.index.result.now in
    let q = c.index-in-loop-i.result.now in
    let inside : c.loop-i.i < length c.in_ok-forms.forms.items = omega arith in
    let along : c.loop-i.i < length c.in_ok-fields.fields.items = omega arith in
    pack_wrong c.args.table.now c.in_ok-forms.ensures.store c.args.forms c.args.fields p q _ _
    (pack_here c.args.table.now c.args.forms c.args.fields c.in_ok-forms.forms.items c.in_ok-fields.fields.items c.loop-i.i p q inside along c.index.ensures c.index-in-loop-i.ensures c.loop-i.invariant.so)
    (eq-eqb p.0 q.0 c.if-x-y.false) (λ f u h k. sym c.if-not-packs.true ∙ c.in_ok-packs.ensures.packs f u h k)

pub can_pack_all-loop-i-preserved : goal.can_pack_all-loop-i-preserved
can_pack_all-loop-i-preserved t c =
    let p = c.index.result.now in
    let q = c.index-in-loop-i.result.now in
    let inside : c.loop-i.i < length c.in_ok-forms.forms.items = omega arith in
    let along : c.loop-i.i < length c.in_ok-fields.fields.items = omega arith in
    record {
      known = c.in_ok-packs.ensures.still_known;
      so = pack_next c.args.table.now c.in_ok-forms.ensures.store c.args.forms c.args.fields p q _ _
          (pack_here c.args.table.now c.args.forms c.args.fields c.in_ok-forms.forms.items c.in_ok-fields.fields.items c.loop-i.i p q inside along c.index.ensures c.index-in-loop-i.ensures c.loop-i.invariant.so)
          (eq-eqb p.0 q.0 c.if-x-y.false) (λ f u h k. sym c.if-not-packs.false ∙ c.in_ok-packs.ensures.packs f u h k);
    }

pub can_pack_all-returns-clause-packs : goal.can_pack_all-returns-clause-packs
can_pack_all-returns-clause-packs t c =
    let past : length c.in_ok-forms.forms.items ≤ c.loop-i.i = omega arith in
    let along : length c.in_ok-fields.fields.items ≤ c.loop-i.i = omega arith in
    pack_end c.args.table.now c.args.forms c.args.fields c.in_ok-forms.forms.items c.in_ok-fields.fields.items c.loop-i.i past along c.loop-i.invariant.so

-- ---- a choice
pub can_pack_choice-returns-in-Some-Field-clause-packs : goal.can_pack_choice-returns-in-Some-Field-clause-packs
can_pack_choice-returns-in-Some-Field-clause-packs t c =
    let at : slice_get c.args.table.now.cells c.args.fields ≡ Some (Field c.in-Some-Field.name c.in-Some-Field.t) = cc in
    choice_one c.args.table.now c.in-Some-Field.ensures.store c.args.forms c.args.fields c.in-Some-Field.name c.in-Some-Field.t c.can_pack_one.result at c.can_pack_one.ensures.packs

pub can_pack_choice-returns-in_default-clause-packs : goal.can_pack_choice-returns-in_default-clause-packs
can_pack_choice-returns-in_default-clause-packs t c =
    let other : is_field_cell c.cell.result ≡ false = search rules in
    choice_none c.args.table.now c.args.forms c.args.fields (ap is_field_cell (sym c.cell.ensures.value) ∙ other)

pub can_pack_one-returns-in-Some-clause-packs : goal.can_pack_one-returns-in-Some-clause-packs
can_pack_one-returns-in-Some-clause-packs t c =
    one_some c.args.table.now c.in-Some.ensures.store c.args.forms c.args.name c.args.t c.in-Some.form c.can_pack.result c.in-Some.ensures.found c.can_pack.ensures.packs

pub can_pack_one-returns-in-None-clause-packs : goal.can_pack_one-returns-in-None-clause-packs
can_pack_one-returns-in-None-clause-packs t c = one_none c.args.table.now c.in-None.ensures.store c.args.forms c.args.name c.args.t c.in-None.ensures.found
