use Rattle.std.proofs.Common.{◌≡◌, take}
use Rattle.history.specs.History.{levels_from, record_from, deliveries}
use Rattle.history.proofs.Record.deliver_all.Given as goal

-- what was delivered so far made what stands of the start
abbrev pub invariant-loop-command : goal.invariant-loop-command
invariant-loop-command l = record {
  record' : l.record ≡ record_from l.initial.record (deliveries (take l.command-index l.commands));
  levels : l.levels ≡ levels_from l.initial.levels (deliveries (take l.command-index l.commands));
}
