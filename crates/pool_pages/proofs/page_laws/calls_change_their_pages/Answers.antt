use Rattle.pool_pages.proofs.PageChanges.{expose_law, hide_law, map_law, copy_law, erase_law, remap_law, recolour_law, decommit_law, write_law, restore_law, marks_law}
use Rattle.pool_pages.proofs.page_laws.calls_change_their_pages.Goals as goal

pub returns-clause-expose : goal.returns-clause-expose
returns-clause-expose c = expose_law

pub returns-clause-hide : goal.returns-clause-hide
returns-clause-hide c = hide_law

pub returns-clause-map_image : goal.returns-clause-map_image
returns-clause-map_image c = map_law

pub returns-clause-copy_image : goal.returns-clause-copy_image
returns-clause-copy_image c = copy_law

pub returns-clause-erase : goal.returns-clause-erase
returns-clause-erase c = erase_law

pub returns-clause-remap_zeros : goal.returns-clause-remap_zeros
returns-clause-remap_zeros c = remap_law

pub returns-clause-recolour : goal.returns-clause-recolour
returns-clause-recolour c = recolour_law

pub returns-clause-decommit : goal.returns-clause-decommit
returns-clause-decommit c = decommit_law

pub returns-clause-write : goal.returns-clause-write
returns-clause-write c = write_law

pub returns-clause-restore : goal.returns-clause-restore
returns-clause-restore c = restore_law

pub returns-clause-marks : goal.returns-clause-marks
returns-clause-marks c = marks_law
