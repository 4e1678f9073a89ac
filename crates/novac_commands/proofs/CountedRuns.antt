-- What `counts` saves and prints.
use Rattle.std.proofs.Common.{◌≡◌, ℕ, List, [], ◌∷◌}
use Rattle.nv_ast.specs.Sizes.{main_words}
use Rattle.nv_ast.specs.Tree.{ProgramTree}
use Rattle.nv_base.specs.Memories.{Memories, HasSizes}
use Rattle.nv_memtext.specs.MemoryText.{Gives}
use Rattle.ssu_ir.specs.Meaning.{ssu_meaning}
use Rattle.ssu_ir.specs.Tree.{Label}
use Rattle.novac_commands.specs.Counting.{AreCounted}
use Rattle.nova_compile.specs.Sources.{IsTypedSource}
use Rattle.novac_words.specs.Status.{outcome_status}
use Rattle.novac_machine.specs.Machine.{full_text}
use Rattle.novac_machine.specs.Saving.{file}
use Rattle.novac_machine.specs.inner.Files.{files_of}
use Rattle.novac_machine.specs.declared.save.Made.{Made}
use Rattle.novac_commands.specs.Entries.{CountsMake}
use Rattle.nova_compile.specs.Forms.{IsBoundedFormOf}
use Rattle.novac_commands.proofs.Agreeing.{words-small}

pub counts-made : (text memory name : List ℕ) (jumps : ℕ) (program : ProgramTree) (form : List Label) (packet : Memories) (args counts : List ℕ) (m : Made) → IsTypedSource text program → IsBoundedFormOf program form → Gives (main_words program) memory packet args → HasSizes packet
    → AreCounted form args packet jumps counts → files_of m.outputs ≡ file name counts ∷ [] → m.status ≡ outcome_status (ssu_meaning form args packet jumps).outcome → m.text.items ≡ full_text (ssu_meaning form args packet jumps)
    → CountsMake text memory name jumps m.status (files_of m.outputs) m.text.items
counts-made text memory name jumps program form packet args counts m typed is given sizes counted saves ends prints = record {
  program = program;
  is_source = typed;
  form = form;
  is_form = is;
  packet = packet;
  arguments = args;
  given = given;
  counts = counts;
  saves = saves;
  counted = counted;
  ends = ends;
  prints = prints;
  same = λ over. (is.form.kept.same args packet (given.text.number, words-small given.text.arguments.parts args given.text.arguments.words) sizes).ends_only jumps over;
}
