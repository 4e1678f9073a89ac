-- A short memory text, and the text of a short outcome, by computing.
use Rattle.std.proofs.Common.{[], ◌∷◌, refl, lit<, lit≤, codes}
use Rattle.std.specs.Fmt.{digits}
use Rattle.nv_lines.specs.Number.{SpellsWord, hex_word}
use Rattle.nv_base.specs.declared.term.Mem.TheVariants.{Sram, Sdram}
use Rattle.nv_memtext.specs.OutcomeText.{outcome_text, named_text}
use Rattle.nv_memtext.specs.Worked.{ShortText, ShortOutcome, NamedOutcome}

-- the words of the text
args_0 : SpellsWord (codes "FFFFFFFF") 4294967295
args_0 = record { eight = refl; digits = (lit< tt, (lit< tt, (lit< tt, (lit< tt, (lit< tt, (lit< tt, (lit< tt, (lit< tt, tt)))))))); value = refl }

args_1 : SpellsWord (codes "0000000a") 10
args_1 = record { eight = refl; digits = (lit< tt, (lit< tt, (lit< tt, (lit< tt, (lit< tt, (lit< tt, (lit< tt, (lit< tt, tt)))))))); value = refl }

five : SpellsWord (codes "00000005") 5
five = record { eight = refl; digits = (lit< tt, (lit< tt, (lit< tt, (lit< tt, (lit< tt, (lit< tt, (lit< tt, (lit< tt, tt)))))))); value = refl }

six : SpellsWord (codes "00000006") 6
six = record { eight = refl; digits = (lit< tt, (lit< tt, (lit< tt, (lit< tt, (lit< tt, (lit< tt, (lit< tt, (lit< tt, tt)))))))); value = refl }

seven : SpellsWord (codes "00000007") 7
seven = record { eight = refl; digits = (lit< tt, (lit< tt, (lit< tt, (lit< tt, (lit< tt, (lit< tt, (lit< tt, (lit< tt, tt)))))))); value = refl }

eight : SpellsWord (codes "00000008") 8
eight = record { eight = refl; digits = (lit< tt, (lit< tt, (lit< tt, (lit< tt, (lit< tt, (lit< tt, (lit< tt, (lit< tt, tt)))))))); value = refl }

nine : SpellsWord (codes "00000009") 9
nine = record { eight = refl; digits = (lit< tt, (lit< tt, (lit< tt, (lit< tt, (lit< tt, (lit< tt, (lit< tt, (lit< tt, tt)))))))); value = refl }

pub short_text : ShortText
unfolding digits
short_text = record {
  lines = codes "memory 4 3" ∷ codes "args FFFFFFFF 0000000a" ∷ codes "sram 1 00000005 00000006" ∷ codes "sram 2 00000007" ∷ codes "sdram 2 00000008 00000009" ∷ [];
  spelled = refl;
  text = record {
    sram = 4;
    sdram = 3;
    first = codes "memory 4 3";
    second = codes "args FFFFFFFF 0000000a";
    others = codes "sram 1 00000005 00000006" ∷ codes "sram 2 00000007" ∷ codes "sdram 2 00000008 00000009" ∷ [];
    stretches = record { mem = Sram; at = 1; words = 5 ∷ 6 ∷ [] } ∷ record { mem = Sram; at = 2; words = 7 ∷ [] } ∷ record { mem = Sdram; at = 2; words = 8 ∷ 9 ∷ [] } ∷ [];
    lines = refl;
    sizes = record { sram_digits = lit< tt; sdram_digits = lit< tt; spelled = refl };
    small = refl;
    arguments = record { parts = codes "FFFFFFFF" ∷ codes "0000000a" ∷ []; spelled = refl; words = (args_0, (args_1, tt)); eight = lit≤ tt };
    number = refl;
    spelled = (
      record { parts = codes "00000005" ∷ codes "00000006" ∷ []; spelled = refl; words = (five, (six, tt)); number = (lit≤ tt, lit≤ tt); inside = lit≤ tt },
      (
        record { parts = codes "00000007" ∷ []; spelled = refl; words = (seven, tt); number = (lit≤ tt, lit≤ tt); inside = lit≤ tt },
        (
          record { parts = codes "00000008" ∷ codes "00000009" ∷ []; spelled = refl; words = (eight, (nine, tt)); number = (1, refl, lit≤ tt, lit≤ tt); inside = lit≤ tt },
          tt,
        ),
      ),
    );
    memories = refl;
  };
}

pub short_outcome : ShortOutcome
unfolding outcome_text hex_word digits
short_outcome = refl

pub named_outcome : NamedOutcome
unfolding named_text hex_word digits
named_outcome = refl
