use Rattle.std.proofs.Common.{ap, ◌∙◌}
use Rattle.reader.specs.declared.line.ReadLine.{ReadLine}
use Rattle.compiler.specs.declared.groups.Groups.{Groups}
use Rattle.compiler.proofs.Surveys.{misread_line, forbidden_line, allowed_line, admits_allowed, grown, counted_more}
use Rattle.compiler.proofs.survey.Survey.add.Goals as goal

pub returns-in-Err : goal.returns-in-Err
returns-in-Err c =
    let f = c.in-Err.ensures.told in
    record { reads = λ above t k. rw c.at.ensures (misread_line c.args.bytes.now t above _ f.0 _ _ k.lines f.1 f.2); lines = tt }

pub returns-then-not-admits : goal.returns-then-not-admits
returns-then-not-admits c =
    let f = c.in-Ok.ensures.told in
    record { reads = λ above t k. forbidden_line c.args.bytes.now t above _ f.0 k.lines f.1 (admits_allowed c.args.self.now above c.args.bytes.now c.in-Ok.read f.0 _ k f.1 f.2 c.if-not-admits.ensures); lines = tt }

pub returns : goal.returns
returns c =
    let f = c.in-Ok.ensures.told in
    record {
      reads = λ above t k. (f.0, allowed_line c.args.bytes.now t above f.0 f.1 (admits_allowed c.args.self.now above c.args.bytes.now c.in-Ok.read f.0 _ k f.1 f.2 c.if-not-admits.ensures), counted_more c.args.self.now c.count.new.self above c.args.bytes.now f.0 f.1 k (grown c.args.self.now c.count.new.self c.in-Ok.read f.0 c.instructions_of.result f.2 (c.instructions_of.ensures.is f.0.side (ap (λ (o : ReadLine). o.side) f.2)) (ap (λ (o : Groups). o.seen) c.count.ensures.groups ∙ c.note.ensures.seen) (ap (λ (o : Groups). o.awaited) c.count.ensures.groups ∙ c.note.ensures.awaited) c.count.ensures.lines c.count.ensures.instructions c.count.ensures.heads c.count.ensures.over c.count.ensures.last));
      lines = c.count.ensures.lines;
    }
