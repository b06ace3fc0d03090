use Rattle.std.proofs.Common.{arith, rules, ◌∙◌}
use Rattle.digits.proofs.Keeping.{push_length, push_held}
use Rattle.digits.proofs.line.NumberLine.push.Goals as goal

pub returns-then-digits-remaining_capacity-clause-room : goal.returns-then-digits-remaining_capacity-clause-room
returns-then-digits-remaining_capacity-clause-room g c =
    let l = push_length _ _ _ c.args.number c.self.invariant (c.as_bytes-digits.ensures.value ∙ c.format.ensures.text) in search rules

pub overflow_add-self : goal.overflow_add-self
overflow_add-self g c =
    let l = push_length _ _ _ c.args.number c.self.invariant (c.as_bytes-digits.ensures.value ∙ c.format.ensures.text) in search rules

pub invariant_of-self : goal.invariant_of-self
invariant_of-self g c =
    let h = push_held _ _ _ _ _ c.args.number c.self.invariant (omega arith) (c.as_bytes-digits.ensures.value ∙ c.format.ensures.text) c.put_digits.ensures.items c.push.ensures.items in search rules

pub returns-clause-room : goal.returns-clause-room
returns-clause-room g c =
    let l = push_length _ _ _ c.args.number c.self.invariant (c.as_bytes-digits.ensures.value ∙ c.format.ensures.text) in search rules

pub returns-clause-held : goal.returns-clause-held
returns-clause-held g c =
    let h = push_held _ _ _ _ _ c.args.number c.self.invariant (omega arith) (c.as_bytes-digits.ensures.value ∙ c.format.ensures.text) c.put_digits.ensures.items c.push.ensures.items in search rules
