use Rattle.std.proofs.Common.{drop, ap, ◌∙◌, rules}
use Rattle.digits.proofs.Keeping.{uncut_held, cut_moved}
use Rattle.digits.proofs.line.NumberLine.remove_first.Goals as goal

pub returns-in_err-comma-clause-there : goal.returns-in_err-comma-clause-there
returns-in_err-comma-clause-there g c =
    let h = uncut_held _ _ _ c.self.invariant c.deref.ensures.0 c.in_err-comma.ensures in search rules

pub returns-in_err-comma-clause-after : goal.returns-in_err-comma-clause-after
returns-in_err-comma-clause-after g c =
    let h = uncut_held _ _ _ c.self.invariant c.deref.ensures.0 c.in_err-comma.ensures in search rules

pub invariant_of-self : goal.invariant_of-self
invariant_of-self g c =
    (cut_moved _ _ _ _ _ _ c.in_ok-comma.comma _ c.self.invariant c.deref.ensures.0 c.in_ok-comma.ensures c.len.ensures.value c.as_mut_slice.ensures.value c.copy_within.ensures.len c.copy_within.ensures.after c.truncate.ensures.items).1

pub returns-clause-after : goal.returns-clause-after
returns-clause-after g c =
    (cut_moved _ _ _ _ _ _ c.in_ok-comma.comma _ c.self.invariant c.deref.ensures.0 c.in_ok-comma.ensures c.len.ensures.value c.as_mut_slice.ensures.value c.copy_within.ensures.len c.copy_within.ensures.after c.truncate.ensures.items).2
    ∙ ap (drop 1) c.self.view_is
