-- What the reader of a text has read, and what is left.
use Rattle.std.specs.Prelude.{◌≡◌, ℕ, ◌+◌, ◌*◌, ◌≤◌, List, ◌∷◌, ◌++◌, length, map}
use Rattle.nv_lines.specs.Line.{text_of}
use Rattle.uc_asm.specs.Items.{Item, item_line, params_line}
use Rattle.uc_asm.specs.Text.{AreItems}

-- the first line and these items
pub record HasItems (text : List ℕ) (params : ℕ) (items : List Item) (rest : List ℕ) : Type 0 where
  pub spelled : text ≡ text_of (params_line params ∷ map item_line items) ++ rest
  pub few : params ≤ 8
  pub each : AreItems items
  pub short : 2 * length items + length rest ≤ length text
