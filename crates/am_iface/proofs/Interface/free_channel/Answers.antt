use Rattle.std.specs.Prelude.{is_some}
use Rattle.std.proofs.Common.{◌≡◌, ◌<◌, ◌≤◌, ℕ, true, false, sym, ap, ◌∙◌, arith, ◌-◌}
use Rattle.am_model.specs.History.{channel_to, free_from}
use Rattle.am_iface.proofs.Frees as frees
use Rattle.am_iface.proofs.Interface.free_channel.Goals as goal

pub loop-channel-init : goal.loop-channel-init
loop-channel-init c =
    let v = c.args.self.now in
    let same : v.settings.channels ≡ v.settings.channels - 0 = omega arith in
    ap (λ (n : ℕ). free_from v.settings.node c.args.peer v.log 0 n) same

pub loop-channel-preserved : goal.loop-channel-preserved
loop-channel-preserved c =
    let v = c.args.self.now in
    let k = c.loop-channel.channel in
    let below : k < v.settings.channels = omega (arith, c.loop-channel-test.true, c.channels-channels.ensures) in
    let busy : is_some c.bound.result ≡ true = c.if-is_none.ensures in
    c.loop-channel.invariant
    ∙ frees.busy_on v.settings.node c.args.peer v.log k v.settings.channels below (frees.bound_is (channel_to v.settings.node c.args.peer k) v.log
    c.bound.result c.bound.ensures.message ∙ busy)

pub returns-then-is_none : goal.returns-then-is_none
returns-then-is_none c =
    let v = c.args.self.now in
    let k = c.loop-channel.channel in
    let below : k < v.settings.channels = omega (arith, c.loop-channel-test.true, c.channels-channels.ensures) in
    let idle : is_some c.bound.result ≡ false = c.if-is_none.ensures in
    sym (c.loop-channel.invariant
    ∙ frees.idle_at v.settings.node c.args.peer v.log k v.settings.channels below (frees.bound_is (channel_to v.settings.node c.args.peer k) v.log
    c.bound.result c.bound.ensures.message ∙ idle))

pub returns : goal.returns
returns c =
    let v = c.args.self.now in
    let k = c.loop-channel.channel in
    let past : v.settings.channels ≤ k = omega (arith, c.loop-channel-test.false, c.channels-channels.ensures) in
    sym (c.loop-channel.invariant ∙ frees.free_end v.settings.node c.args.peer v.log k v.settings.channels past)
