use Rattle.std.proofs.Common.{◌≡◌, ◌++◌, OnOk, codes, string_bytes, subst, sym}
use Rattle.pool_forms.specs.Output.{no_stacks_text}
use Rattle.pool_forms.specs.declared.print.Allocator.{Allocator}
use Rattle.pool_forms.specs.declared.print.Allocator.TheVariants.{Pooling, OnDemand}
use Rattle.pool_forms.proofs.LineFeeds.{on_ok}
use Rattle.pool_forms.proofs.print.push_no_stacks.Goals as goal

pub returns-in-Pooling : goal.returns-in-Pooling
returns-in-Pooling c =
    let Ends : Allocator → Type 0 = λ a. OnOk c.push_str.result (string_bytes c.push_str.new.self ≡ string_bytes c.args.out.now ++ (codes "StacksDisabled: " ++ no_stacks_text a)) in
    subst Ends (sym c.in-Pooling.is) (on_ok c.push_str.result (string_bytes c.push_str.new.self) (string_bytes c.args.out.now ++ (codes "StacksDisabled: " ++ no_stacks_text Pooling)) (string_bytes c.args.out.now) c.push_str.ensures.bytes)

pub returns-in-OnDemand : goal.returns-in-OnDemand
returns-in-OnDemand c =
    let Ends : Allocator → Type 0 = λ a. OnOk c.push_str-in-OnDemand.result (string_bytes c.push_str-in-OnDemand.new.self ≡ string_bytes c.args.out.now ++ (codes "StacksDisabled: " ++ no_stacks_text a)) in
    subst Ends (sym c.in-OnDemand.is) (on_ok c.push_str-in-OnDemand.result (string_bytes c.push_str-in-OnDemand.new.self) (string_bytes c.args.out.now ++ (codes "StacksDisabled: " ++ no_stacks_text OnDemand)) (string_bytes c.args.out.now) c.push_str-in-OnDemand.ensures.bytes)
