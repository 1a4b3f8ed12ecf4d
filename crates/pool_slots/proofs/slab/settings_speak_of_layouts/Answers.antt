use Rattle.pool_slots.proofs.Settings.{settings_speak}
use Rattle.pool_slots.proofs.slab.settings_speak_of_layouts.Goals as goal

pub returns : goal.returns
returns c = settings_speak
