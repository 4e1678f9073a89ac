use Rattle.std.proofs.Common.{◌-◌, ◌∙◌, ℕ, List, subst, arith, length}
use Rattle.std.proofs.Math.Nat.{le_trans}
use Rattle.ssu_ir.specs.Entered.{entered}
use Rattle.ssu_ir.specs.Meaning.{ssu_meaning, ssu_params}
use Rattle.ssu_ir.specs.View.{labels_view}
use Rattle.uc_isa.specs.declared.instruction.Instr.{Instr}
use Rattle.uc_isa.specs.Entry.{AssumesNoMore}
use Rattle.uc_isa.proofs.EntryLemmas.{visited-along}
use Rattle.uc_isa.proofs.Following.{assumes-there}
use Rattle.uc_peep.proofs.Peeps.{kept-trans}
use Rattle.uc_peep.proofs.Without.{without-trans}
use Rattle.uc_peep.specs.Rewrites.{IsWithout}
use Rattle.uc_peep.specs.Becomes.{IsKept}
use Rattle.uc_peep_facts.specs.Turned.{IsTurned}
use Rattle.uc_peep_facts.specs.Elsewhere.{AreReread, IsSourced}
use Rattle.ucode_emit.specs.Operations.{code_operations}
use Rattle.ucode_emit.specs.SpillBase.{SpillsByBase}
use Rattle.nova_back.specs.LeftOut.{LeavesOut}
use Rattle.nova_back.specs.LeftOut.LeavesOut.{InTurn}
use Rattle.nova_back.proofs.LeftOut.{operations-left, operations-reread, operations-turned, params-few, spills-left, spills-reread, spills-turned}
use Rattle.nova_back.proofs.Sizes.{size-few}
use Rattle.nova_back.proofs.built.code_of.Goals as goal

-- five codes, one after the other
kept-thrice : (a b d e : List Instr) (s t u v : List ℕ) → IsKept a s b t → IsKept b t d u → IsKept d u e v → IsKept a s e v
kept-thrice a b d e s t u v f g h = kept-trans a b e s t v f (kept-trans b d e t u v g h)

kept-through : (a b d e f g : List Instr) (s t u v w : List ℕ) → IsKept a s b s → IsKept b s d t → IsKept d t e u → IsKept e u f v → IsKept f v g w → IsKept a s g w
kept-through a b d e f g s t u v w x y z p q = kept-trans a b g s s w x (kept-trans b d g s t w y (kept-thrice d e f g t u v w z p q))

-- without some computations, with turned branches, and without more
leaves-through : (a b d e f : List Instr) → AreReread a b → IsWithout b d → IsTurned d e → IsWithout e f → LeavesOut (code_operations a) (code_operations f)
leaves-through a b d e f r w t v =
    subst (λ os. LeavesOut os (code_operations f)) (operations-reread a b r)
    (InTurn (code_operations b) (code_operations d) (code_operations f) (operations-left b d w)
    (InTurn (code_operations d) (code_operations e) (code_operations f) (operations-turned d e t) (operations-left e f v)))

spills-through : (slots : ℕ) (a b d e f : List Instr) → AreReread a b → IsWithout b d → IsTurned d e → IsWithout e f → SpillsByBase slots a → SpillsByBase slots f
spills-through slots a b d e f r w t v h = spills-left slots e f v (spills-turned slots d e t (spills-left slots b d w (spills-reread slots a b r h)))

pub emit-requires-clause-few : goal.emit-requires-clause-few
emit-requires-clause-few c = size-few (labels_view c.args.bank.now.form.ssu.now) c.args.slots c.requires.single c.args.bank.now.few c.requires.few_rows

pub assign_by-requires-clause-feasible : goal.assign_by-requires-clause-feasible
assign_by-requires-clause-feasible c = c.requires.choice.feasible

pub emit-requires-clause-fits : goal.emit-requires-clause-fits
emit-requires-clause-fits c = c.in_ok-placement.ensures.fits

pub returns-clause-code : goal.returns-clause-code
returns-clause-code c =
    let labels = labels_view c.args.bank.now.form.ssu.now in
    let old = c.in_ok-emitted.emitted.code.list in
    let elsewhere = c.in_ok-read.read.list in
    let first = c.in_ok-first.first in
    let once = c.in_ok-once.once in
    let turned = c.in_ok-turned.turned in
    let new = c.in_ok-peeped.peeped in
    let starts = c.in_ok-emitted.emitted.starts.items in
    let sourced : IsSourced old starts elsewhere = subst (λ l. IsSourced old l elsewhere) c.deref.ensures.value c.in_ok-read.ensures.sourced in
    let kept = kept-through old elsewhere first.code.list once.code.list turned.code.list new.code.list starts first.starts.items once.starts.items turned.starts.items new.starts.items
    sourced.kept c.in_ok-first.ensures.kept c.in_ok-once.ensures.kept c.in_ok-turned.ensures.kept c.in_ok-peeped.ensures.kept in
    let thinner = without-trans elsewhere first.code.list once.code.list c.in_ok-first.ensures.without c.in_ok-once.ensures.without in
    let meaning = ssu_meaning labels in
    record {
      lawful = c.in_ok-peeped.ensures.lawful;
      agrees =
          (c.in_ok-peeped.ensures.agrees (ssu_params labels) meaning).0
          ((c.in_ok-turned.ensures.agrees (ssu_params labels) meaning).0
          ((c.in_ok-once.ensures.agrees (ssu_params labels) meaning).0
          ((c.in_ok-first.ensures.agrees (ssu_params labels) meaning).0
          ((c.in_ok-read.ensures.agrees (ssu_params labels) meaning).0 c.in_ok-emitted.ensures.agrees))));
      entry = assumes-there (ssu_params labels) meaning c.args.slots old new.code.list starts new.starts.items kept.follows
          (subst (λ n. AssumesNoMore (ssu_params labels) meaning n old) c.in_ok-placement.ensures.slots_are c.in_ok-emitted.ensures.assumes);
      spills = spills-through c.args.slots old elsewhere once.code.list turned.code.list new.code.list sourced.reread thinner c.in_ok-turned.ensures.turned c.in_ok-peeped.ensures.without
          (subst (λ n. SpillsByBase n old) c.in_ok-placement.ensures.slots_are c.in_ok-emitted.ensures.spills);
      does = subst (λ os. LeavesOut os (code_operations new.code.list)) c.in_ok-emitted.ensures.operations
          (leaves-through old elsewhere once.code.list turned.code.list new.code.list sourced.reread thinner c.in_ok-turned.ensures.turned c.in_ok-peeped.ensures.without);
    }

pub returns-clause-starts : goal.returns-clause-starts
returns-clause-starts c =
    let labels = labels_view c.args.bank.now.form.ssu.now in
    let old = c.in_ok-emitted.emitted.code.list in
    let elsewhere = c.in_ok-read.read.list in
    let first = c.in_ok-first.first in
    let once = c.in_ok-once.once in
    let turned = c.in_ok-turned.turned in
    let new = c.in_ok-peeped.peeped in
    let starts = c.in_ok-emitted.emitted.starts.items in
    let sourced : IsSourced old starts elsewhere = subst (λ l. IsSourced old l elsewhere) c.deref.ensures.value c.in_ok-read.ensures.sourced in
    let kept = kept-through old elsewhere first.code.list once.code.list turned.code.list new.code.list starts first.starts.items once.starts.items turned.starts.items new.starts.items
    sourced.kept c.in_ok-first.ensures.kept c.in_ok-once.ensures.kept c.in_ok-turned.ensures.kept c.in_ok-peeped.ensures.kept in
    let began = c.in_ok-emitted.ensures.starts in
    record {
      starts_are = record {
        count = kept.count ∙ began.count;
        shape = kept.shape began.shape;
        inside = kept.inside;
        end_ = λ i at. (kept.lawful.each (length new.code.list - 1) i at).last (let some = kept.lawful.some in omega (arith, some));
      };
      visited = visited-along (ssu_params labels) (entered labels) old new.code.list starts new.starts.items (params-few labels c.requires.single) kept.count kept.follows c.in_ok-emitted.ensures.visited;
      settled = c.in_ok-peeped.ensures.settled;
    }

pub returns-clause-placed : goal.returns-clause-placed
returns-clause-placed c =
    let elsewhere = c.in_ok-read.read.list in
    let first = c.in_ok-first.first.code.list in
    let once = c.in_ok-once.once.code.list in
    let starts = c.in_ok-emitted.emitted.starts.items in
    record {
      placement = c.in_ok-placement.placement;
      read = c.in_ok-placement.ensures.read;
      emitted_code = c.in_ok-emitted.emitted.code.list;
      emitted_starts = starts;
      emitted = c.in_ok-emitted.ensures.emitted;
      reread_code = elsewhere;
      reread = c.in_ok-read.ensures.sourced.reread;
      thinner_code = once;
      thinner = without-trans elsewhere first once c.in_ok-first.ensures.without c.in_ok-once.ensures.without;
      turned_code = c.in_ok-turned.turned.code.list;
      turned = c.in_ok-turned.ensures.turned;
      without = c.in_ok-peeped.ensures.without;
    }

pub returns-clause-light : goal.returns-clause-light
returns-clause-light c = λ ws.
    let old = c.in_ok-emitted.emitted.code.list in
    let elsewhere = c.in_ok-read.read.list in
    let first = c.in_ok-first.first in
    let once = c.in_ok-once.once in
    let turned = c.in_ok-turned.turned in
    let new = c.in_ok-peeped.peeped in
    let starts = c.in_ok-emitted.emitted.starts.items in
    let sourced : IsSourced old starts elsewhere = subst (λ l. IsSourced old l elsewhere) c.deref.ensures.value c.in_ok-read.ensures.sourced in
    let kept = kept-through old elsewhere first.code.list once.code.list turned.code.list new.code.list starts first.starts.items once.starts.items turned.starts.items new.starts.items
    sourced.kept c.in_ok-first.ensures.kept c.in_ok-once.ensures.kept c.in_ok-turned.ensures.kept c.in_ok-peeped.ensures.kept in
    le_trans (kept.moves ws) (le_trans (c.in_ok-emitted.ensures.weighted ws) (c.in_ok-placement.ensures.weighted_paid ws))

pub returns-clause-short : goal.returns-clause-short
returns-clause-short c =
    let old = c.in_ok-emitted.emitted.code.list in
    let elsewhere = c.in_ok-read.read.list in
    let first = c.in_ok-first.first in
    let once = c.in_ok-once.once in
    let turned = c.in_ok-turned.turned in
    let new = c.in_ok-peeped.peeped in
    let starts = c.in_ok-emitted.emitted.starts.items in
    let sourced : IsSourced old starts elsewhere = subst (λ l. IsSourced old l elsewhere) c.deref.ensures.value c.in_ok-read.ensures.sourced in
    let kept = kept-through old elsewhere first.code.list once.code.list turned.code.list new.code.list starts first.starts.items once.starts.items turned.starts.items new.starts.items
    sourced.kept c.in_ok-first.ensures.kept c.in_ok-once.ensures.kept c.in_ok-turned.ensures.kept c.in_ok-peeped.ensures.kept in
    le_trans kept.most c.in_ok-emitted.ensures.short
