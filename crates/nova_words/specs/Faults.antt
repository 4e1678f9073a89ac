-- Which faults words can have.
use Rattle.std.specs.Prelude.{◌≡◌, ◌≢◌, ◌≤◌, ◌⊎◌, ℕ, List, [], String, codes, decimal, ⊤}
use Rattle.std.specs.Global.{Global}
use Rattle.nova_words.specs.declared.fault.WordFault.{WordFault}
use Rattle.nova_words.specs.declared.fault.WordFault.TheVariants.{NoMemory, NoWords, UnknownCommand, UnknownOption, NoValue, UnwantedValue, BadNumber, MissingName, ExtraName}
use Rattle.nova_words.specs.Limits.{FirstIs, NamesNone, name_of}

-- the text spells no number from one to another
abbrev pub SpellsNone : List ℕ → ℕ → ℕ → Type 0
SpellsNone text least most = (n : ℕ) → least ≤ n → n ≤ most → text ≢ decimal n

-- words that begin with this one can have this fault: an unknown command is that word or the one that help is asked for, and
-- each other fault is of the command that the word names
abbrev pub IsFaultAt : List ℕ → WordFault → Type 0
IsFaultAt word NoMemory = ⊤
IsFaultAt word NoWords = ⊥
IsFaultAt word (UnknownCommand name) = ((word ≡ name.now) ⊎ (word ≡ codes "help")) × NamesNone name.now
IsFaultAt word (UnknownOption verb option) = word ≡ name_of verb
IsFaultAt word (NoValue verb setting) = word ≡ name_of verb
IsFaultAt word (UnwantedValue verb setting) = word ≡ name_of verb
IsFaultAt word (BadNumber verb setting value least most) = (word ≡ name_of verb) × SpellsNone value.now least most
IsFaultAt word (MissingName verb what) = word ≡ name_of verb
IsFaultAt word (ExtraName verb name) = word ≡ name_of verb

-- these words can have this fault
abbrev pub HaveFault : List (String Global) → WordFault → Type 0
HaveFault words NoMemory = ⊤
HaveFault words NoWords = words ≡ []
HaveFault words fault = FirstIs words (λ word. IsFaultAt word fault)
