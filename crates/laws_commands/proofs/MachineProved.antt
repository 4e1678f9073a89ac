-- A short object, by computing.
use Rattle.std.proofs.Common.{◌≡◌, ◌∙◌, refl, ap, sym, ℕ, ◌<◌, List, [], ◌∷◌, Bool, true, false, Some, inl, lit<, lit≤, codes, slice_get, arith}
use Rattle.std.proofs.lemmas.Option.{slice_get_within}
use Rattle.std.specs.Fmt.{digits}
use Rattle.nv_lines.specs.Line.{text_of}
use Rattle.nv_lines.specs.Number.{SpellsWord, hex_word}
use Rattle.nv_base.specs.Memories.{blank}
use Rattle.nv_base.specs.declared.term.Bin.TheVariants.{Add}
use Rattle.nv_memtext.specs.MemoryText.{Gives}
use Rattle.nv_memtext.specs.OutcomeText.{outcome_text}
use Rattle.uc_schedule.specs.ScheduleText.{Gives as GivesTurns}
use Rattle.uc_contexts.specs.Alone.{AreDisjoint}
use Rattle.uc_contexts.specs.Footprints.{Isolated}
use Rattle.uc_isa.specs.Lawful.{IsLawful}
use Rattle.uc_isa.specs.Worked.{sum_code}
use Rattle.uc_isa.proofs.Listing.{IsPlain, lawful-before_halt}
use Rattle.uc_isa.specs.declared.instruction.Src.TheVariants as src
use Rattle.uc_isa.specs.declared.instruction.Dst.TheVariants as dst
use Rattle.uc_isa.specs.declared.instruction.UnOp.TheVariants.{Copy}
use Rattle.uc_isa.specs.declared.instruction.Instr.TheVariants.{Alu, Un, Halt}
use Rattle.uc_object.specs.Object.{IsObject, IsBadPlace}
use Rattle.uc_object.specs.Worked.{sum_object}
use Rattle.uc_object.specs.declared.object.Object.{Object}
use Rattle.uc_object.specs.declared.object.Object.TheVariants.{One, Two}
use Rattle.uc_object.proofs.Worked.{short_objects}
use Rattle.novac_machine.specs.Scheduled.{disjoint_line}
use Rattle.laws_commands.specs.Machine.{SumCommands, PeepKeeps, sum_memory}

pub peep_keeps : PeepKeeps
peep_keeps o q h params source agrees = (h.agrees params source).0 agrees

is_object : IsObject sum_object (One sum_code)
is_object = short_objects.0

copies : IsPlain (Un (dst.B 0) Copy (src.A 1))
copies = record { rule1 = tt; rule2 = tt; rule3 = tt; rule4 = tt; rule5 = λ len. tt; rule6 = tt }

adds : IsPlain (Alu (dst.A 0) Add (src.A 0) (src.B 0))
adds = record { rule1 = tt; rule2 = tt; rule3 = tt; rule4 = tt; rule5 = λ len. tt; rule6 = tt }

halts : IsPlain (Halt 0 1)
halts = record { rule1 = tt; rule2 = tt; rule3 = tt; rule4 = tt; rule5 = λ len. tt; rule6 = lit≤ tt }

is_lawful : IsLawful sum_code.list
is_lawful = lawful-before_halt (Un (dst.B 0) Copy (src.A 1) ∷ Alu (dst.A 0) Add (src.A 0) (src.B 0) ∷ []) (Halt 0 1) (copies, (adds, tt)) halts tt

five : SpellsWord (codes "00000005") 5
five = record { eight = refl; digits = (lit< tt, (lit< tt, (lit< tt, (lit< tt, (lit< tt, (lit< tt, (lit< tt, (lit< tt, tt)))))))); value = refl }

seven : SpellsWord (codes "00000007") 7
seven = record { eight = refl; digits = (lit< tt, (lit< tt, (lit< tt, (lit< tt, (lit< tt, (lit< tt, (lit< tt, (lit< tt, tt)))))))); value = refl }

given : Gives 2 sum_memory (blank 0 0) (5 ∷ 7 ∷ [])
unfolding digits
given = record {
  lines = codes "memory 0 0" ∷ codes "args 00000005 00000007" ∷ [];
  spelled = refl;
  text = record {
    sram = 0;
    sdram = 0;
    first = codes "memory 0 0";
    second = codes "args 00000005 00000007";
    others = [];
    stretches = [];
    lines = refl;
    sizes = record { sram_digits = lit< tt; sdram_digits = lit< tt; spelled = refl };
    small = refl;
    arguments = record { parts = codes "00000005" ∷ codes "00000007" ∷ []; spelled = refl; words = (five, (seven, tt)); eight = lit≤ tt };
    number = refl;
    spelled = tt;
    memories = refl;
  };
}

-- ---- one context

turns : GivesTurns 2 (text_of (codes "contexts 1" ∷ codes "run 0 3" ∷ [])) [] ((0, 3) ∷ [])
unfolding digits
turns = record {
  lines = codes "contexts 1" ∷ codes "run 0 3" ∷ [];
  spelled = refl;
  text = record {
    contexts = 1;
    begun = record {
      first = codes "contexts 1";
      others = codes "run 0 3" ∷ [];
      lines = refl;
      count = record { some = lit≤ tt; few = lit≤ tt; spelled = refl };
      spelled = (record { named = lit< tt; some = lit≤ tt; few = lit≤ tt; spelled = refl }, tt);
    };
    all = refl;
  };
}

only_first : (run : Isolated) (i : ℕ) (x : Isolated) → slice_get (run ∷ []) i ≡ Some x → i ≡ 0
only_first run i x e = let few : i < 1 = slice_get_within (run ∷ []) i x e in omega (arith, few)

one_alone : (run : Isolated) → AreDisjoint sum_code (blank 0 0) (run ∷ [])
one_alone run i j x y apart ex ey = absurd (apart (only_first run i x ex ∙ sym (only_first run j y ey)))

-- ---- no bytes

abbrev is_empty : List ℕ → Bool
is_empty [] = true
is_empty (x ∷ xs) = false

not_empty : (xs : List ℕ) → is_empty xs ≡ false → [] ≡ xs → ⊥
not_empty xs n e = let same : true ≡ false = ap is_empty e ∙ n in cc

no_object : (o : Object) → IsObject [] o → ⊥
no_object (One c) h = not_empty _ refl h.layout
no_object (Two t) h = not_empty _ refl h.layout

empty_place : IsBadPlace [] 0
empty_place = record { inside = lit≤ tt; before = (sum_object, (One sum_code, is_object)); here = λ lt. absurd (omega (arith, lt)); short = λ e h. no_object h.0 h.1 }

pub sum_commands : SumCommands
unfolding outcome_text hex_word digits
sum_commands = record {
  lint = record { o = One sum_code; object = is_object; lawful = is_lawful; done = refl; line = refl };
  run = record { o = One sum_code; object = is_object; lawful = is_lawful; packet = blank 0 0; arguments = 5 ∷ 7 ∷ []; given = given; ends = refl; prints = refl };
  going = record { o = One sum_code; object = is_object; lawful = is_lawful; packet = blank 0 0; arguments = 5 ∷ 7 ∷ []; given = given; ends = refl; prints = refl };
  dis = record { o = One sum_code; object = is_object; done = refl; prints = refl };
  contexts = record {
    o = One sum_code;
    object = is_object;
    lawful = is_lawful;
    packet = blank 0 0;
    arguments = 5 ∷ 7 ∷ [];
    given = given;
    others = [];
    pairs = (0, 3) ∷ [];
    schedule = turns;
    taken = record { line = disjoint_line; tells = inl (one_alone _, refl); ends = refl; prints = refl; alone = λ e. refl };
  };
  no_object = empty_place;
}
