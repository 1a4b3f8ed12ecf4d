use Rattle.std.proofs.Common.{◌≡◌, ◌<◌, true, List, [], length, refl, rules, sym, ap, subst, ◌∙◌, arith}
use Rattle.pool_hall.specs.Seat.{view}
use Rattle.pool_run.specs.declared.reply.Reply.{Reply}
use Rattle.pool_threads.specs.Working.{IsToldSoFar}
use Rattle.pool_threads.proofs.Performs.{NotesSoFar, first_notes, loop_notes}
use Rattle.pool_threads.proofs.party.perform.Goals as goal

pub loop-at-init : goal.loop-at-init
loop-at-init g c =
    let empty : c.args.replies.now.items ≡ [] = search rules in
    record {
      own = search rules;
      free = search rules;
      work = search rules;
      told = subst (λ (rs : List Reply). IsToldSoFar g.job c.args.commands.now rs c.args.party.now) (sym empty) (search rules);
      idle = search rules;
      drawn = search rules;
      host = refl;
      home = refl;
      stripe = refl;
      notes = subst (λ (rs : List Reply). NotesSoFar g.job.plan c.args.party.now.frame.home c.args.party.now.frame.stripe c.args.modules.now c.args.commands.now rs (view c.args.seat.now) (view c.args.seat.now)) (sym empty) (first_notes g.job.plan c.args.party.now.frame.home c.args.party.now.frame.stripe c.args.modules.now c.args.commands.now (view c.args.seat.now));
      done = ap (λ (rs : List Reply). length rs) empty;
      room = search rules;
      reserved = search rules;
    }

pub push_reserved-requires : goal.push_reserved-requires
push_reserved-requires g c =
    let below : c.loop-at.at < length c.args.commands.now = search rules in
    omega (arith, below, c.loop-at.invariant.done, c.loop-at.invariant.room)

pub loop-at-preserved : goal.loop-at-preserved
loop-at-preserved g c =
    let below : c.loop-at.at < length c.args.commands.now = search rules in
    let keyed : c.loop-at.party.keyed ≡ true = c.loop-at.invariant.drawn (omega (arith, below)) in
    record {
      own = c.run_command-reply.ensures.own;
      free = c.run_command-reply.ensures.free;
      work = c.run_command-reply.ensures.work;
      told = subst (λ (rs : List Reply). IsToldSoFar g.job c.args.commands.now rs c.run_command-reply.new.party) (search rules) (c.run_command-reply.ensures.told c.loop-at.replies.items c.loop-at.invariant.told);
      idle = c.run_command-reply.ensures.idle;
      drawn = λ some'. c.run_command-reply.ensures.keyed;
      host = c.run_command-reply.ensures.stays.host ∙ c.loop-at.invariant.host;
      home = c.run_command-reply.ensures.home ∙ c.loop-at.invariant.home;
      stripe = c.run_command-reply.ensures.stays.stripe keyed ∙ c.loop-at.invariant.stripe;
      notes = subst (λ (rs : List Reply). NotesSoFar g.job.plan c.args.party.now.frame.home c.args.party.now.frame.stripe c.args.modules.now c.args.commands.now rs (view c.args.seat.now) (view c.run_command-reply.new.seat)) (search rules) (loop_notes g.job.plan c.args.party.now.frame.home c.args.party.now.frame.stripe c.args.modules.now c.args.commands.now c.loop-at.replies.items c.run_command-reply.result c.loop-at.party.done c.loop-at.party.frame.home c.run_command-reply.new.party.frame.stripe (view c.args.seat.now) (view c.loop-at.seat) (view c.run_command-reply.new.seat) c.loop-at.invariant.home (c.run_command-reply.ensures.stays.stripe keyed ∙ c.loop-at.invariant.stripe) c.loop-at.invariant.told.private.count c.loop-at.invariant.notes c.run_command-reply.ensures.notes);
      done = search rules;
      room = search rules;
      reserved = c.run_command-reply.ensures.reserved;
    }
