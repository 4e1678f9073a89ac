-- The items that the reader makes, as the definitions see them.
use Rattle.std.specs.Prelude.{◌≡◌, ℕ, List, [], ◌∷◌, codes, map}
use Rattle.uc_asm.specs.Words.{words, condition_name}
use Rattle.uc_asm.specs.Items.{Item as TheItem, label, plain, jump, IsItem}
use Rattle.uc_asm.specs.declared.item.Item.{Item}
use Rattle.uc_asm.specs.declared.item.Item.TheVariants.{Label, Plain, Jump}

-- without where its name lies
abbrev pub seen : Item → TheItem
seen (Label name) = label name.now
seen (Plain i) = plain i
seen (Jump cond name) = jump cond name.now

-- the words of an item that isn't a label
abbrev pub item_words : TheItem → List (List ℕ)
item_words (label name) = []
item_words (plain i) = words i
item_words (jump cond name) = codes "br" ∷ condition_name cond ∷ name ∷ []

-- the parts are the words of the item
abbrev pub IsBranch : List (List ℕ) → TheItem → Type 0
IsBranch parts item = IsItem item × (parts ≡ item_words item)

abbrev pub all_seen : List Item → List TheItem
all_seen items = map seen items
