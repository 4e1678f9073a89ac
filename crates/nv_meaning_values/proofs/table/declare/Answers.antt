use Rattle.std.proofs.Common.{bytes_eq}
use Rattle.std.specs.HashMap.{get_by}
use Rattle.std.proofs.lemmas.Map.Text.{hash_map_updates_str}
use Rattle.nv_meaning_values.proofs.NameIndices.{place-new, none-copied}
use Rattle.nv_meaning_values.proofs.table.declare.Goals as goal

pub returns-in_ok-insert : goal.returns-in_ok-insert
returns-in_ok-insert c =
    place-new (λ x. get_by (λ key. bytes_eq x key.now) c.args.places.now) (λ x. get_by (λ key. bytes_eq x key.now) c.insert.new.self) c.args.name.now c.args.place
    (none-copied c.get.result c.is_none.result _ c.get.ensures.value c.is_none.ensures c.if-is_none.true)
    (hash_map_updates_str c.args.name.now c.args.places.now c.insert.new.self _ c.in_ok-insert.ensures.updates)
