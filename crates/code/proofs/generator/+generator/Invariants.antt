use Rattle.code.proofs.generator.+generator.Given as goal

-- proposed from what the function passes where it calls itself
abbrev pub decreases-generator : goal.decreases-generator
decreases-generator l = l.many
