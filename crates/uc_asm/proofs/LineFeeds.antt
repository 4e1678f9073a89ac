-- No line of a text has a line feed in it.
use Rattle.std.proofs.Common.{ℕ, ◌≤◌, List, [], ◌∷◌, map, refl, arith, codes, decimal}
use Rattle.nv_lines.specs.Line.{Lacks, AllLack}
use Rattle.nv_lines.proofs.SplitLaws.{Lacks-test, Lacks-append}
use Rattle.uc_asm.proofs.LineLemmas.{name-lacks}
use Rattle.uc_asm.proofs.WordFeeds.{parted-lacks, instruction-lacks, condition-lacks, number-lacks}
use Rattle.uc_asm.specs.Words.{condition_name}
use Rattle.uc_asm.specs.Items.{Item, label, plain, jump, IsItem, IsNameByte, item_line, params_line}
use Rattle.uc_asm.specs.Text.{AreItems}

no-feed : ¬ IsNameByte 10
no-feed h = grind arith

-- no line of a text has a line feed
pub item-lacks : (item : Item) → IsItem item → Lacks 10 (item_line item)
item-lacks (label name) h = Lacks-append 10 name (codes ":") (name-lacks 10 name no-feed h) (Lacks-test 10 (codes ":") refl)
item-lacks (plain i) h = instruction-lacks i h
item-lacks (jump cond name) h =
    parted-lacks (codes "br" ∷ condition_name cond ∷ name ∷ []) (Lacks-test 10 (codes "br") refl, (condition-lacks cond, (name-lacks 10 name no-feed h, tt)))

pub params-lacks : (params : ℕ) → params ≤ 8 → Lacks 10 (params_line params)
params-lacks params h = parted-lacks (codes "params" ∷ decimal params ∷ []) (Lacks-test 10 (codes "params") refl, (number-lacks params (omega arith), tt))

pub items-lack : (items : List Item) → AreItems items → AllLack 10 (map item_line items)
items-lack [] h = tt
items-lack (item ∷ items) h = (item-lacks item h.0, items-lack items h.1)
