-- The numbers of the starts at each place.
use Rattle.std.specs.Prelude.{◌≡◌, ℕ, ◌<◌, List, [], length, slice_index_or}
use Rattle.uc_asm.specs.Starts.{labels_at}

pub record AreNumbered (places : ℕ) (starts : List ℕ) (numbers : List (List ℕ)) : Type 0 where
  pub many : length numbers ≡ places
  pub each : (place : ℕ) → place < places → slice_index_or numbers place [] ≡ labels_at 0 starts place
