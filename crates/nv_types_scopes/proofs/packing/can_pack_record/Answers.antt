use Rattle.std.proofs.Common.{sym}
use Rattle.nv_types_table.proofs.TypeCells.{record_packed, pack_no_record}
use Rattle.nv_types_scopes.proofs.packing.can_pack_record.Goals as goal

pub returns-in-Some : goal.returns-in-Some
returns-in-Some c =
    record_packed c.args.table.now c.in-Some.ensures.store c.args.forms c.args.t c.in-Some.fields c.can_pack_all.result (sym c.in-Some.ensures.value) c.can_pack_all.ensures.packs

pub returns-in-None : goal.returns-in-None
returns-in-None c = λ u fs h k. sym (pack_no_record c.args.table.now fs c.args.t u h (sym c.in-None.ensures.value))
