use Rattle.std.proofs.Common.{◌<◌, List, length, sym}
use Rattle.pool_slots.specs.SlotQueues.{Queued}
use Rattle.pool_slots.proofs.SlotPops.{zeroed_first, none_to_zero}
use Rattle.pool_slots.proofs.kind_items.KindItems.look_and_zero.Goals as goal

pub returns-in-Some-clause-value : goal.returns-in-Some-clause-value
returns-in-Some-clause-value g c =
    let ms : List Queued = c.args.self.now.items in
    let below : c.in-Some.at < c.len-len.result = c.in-Some.ensures.0 in
    let inside : c.in-Some.at < length ms = rw c.len-len.ensures.value at below in
    sym (zeroed_first c.args.kind ms c.args.self.now.room c.in-Some.at c.zero_at.new.self inside c.in-Some.ensures.1 c.in-Some.ensures.2 c.zero_at.ensures).0

pub returns-in-Some-clause-zeroed : goal.returns-in-Some-clause-zeroed
returns-in-Some-clause-zeroed g c =
    let ms : List Queued = c.args.self.now.items in
    let below : c.in-Some.at < c.len-len.result = c.in-Some.ensures.0 in
    let inside : c.in-Some.at < length ms = rw c.len-len.ensures.value at below in
    (zeroed_first c.args.kind ms c.args.self.now.room c.in-Some.at c.zero_at.new.self inside c.in-Some.ensures.1 c.in-Some.ensures.2 c.zero_at.ensures).1

pub returns-in-None-clause-value : goal.returns-in-None-clause-value
returns-in-None-clause-value g c =
    let ms : List Queued = c.args.self.now.items in
    sym (none_to_zero c.args.kind ms (λ k below. c.in-None.ensures k (rw c.len-len.ensures.value below))).0

pub returns-in-None-clause-zeroed : goal.returns-in-None-clause-zeroed
returns-in-None-clause-zeroed g c =
    let ms : List Queued = c.args.self.now.items in
    let none = none_to_zero c.args.kind ms (λ k below. c.in-None.ensures k (rw c.len-len.ensures.value below)) in
    λ k. record { items = sym none.1 k; room = c.args.self.now.room }
