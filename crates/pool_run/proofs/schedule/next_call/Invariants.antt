use Rattle.pool_run.proofs.schedule.next_call.Given as goal

abbrev pub ghost-turn : goal.ghost-turn
ghost-turn g a = record { of = g.of; told = a.self.now.replies }

abbrev pub ghost-end_call : goal.ghost-end_call
ghost-end_call g a = g.of
