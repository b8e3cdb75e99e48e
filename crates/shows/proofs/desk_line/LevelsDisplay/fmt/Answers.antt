use Rattle.std.proofs.Common.{◌++◌, sym, ap, add-one, rules, get_or}
use Rattle.std.proofs.Output.{has_written_append, has_written_of_eq}
use Rattle.shows.specs.Texts.{levels_text, level_text}
use Rattle.shows.proofs.desk_line.LevelsDisplay.fmt.Goals as goal

pub loop-channel-init : goal.loop-channel-init
unfolding levels_text
loop-channel-init g c = search rules

pub loop-channel-preserved : goal.loop-channel-preserved
unfolding levels_text
loop-channel-preserved g c =
    let ls = c.args.self.now.0.now in
    let k = c.loop-channel.channel in
    λ p. has_written_of_eq _ _ (levels_text k ls ++ level_text k (get_or ls k 0)) _ _ (sym (ap (λ n. levels_text n ls) (add-one k)))
    (has_written_append _ _ _ _ (level_text k (get_or ls k 0)) _ (c.loop-channel.invariant p) (search rules))
