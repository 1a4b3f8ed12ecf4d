-- The first memory or table of which a rule is broken is found from left to right, as in the pool.
pub use Rattle.pool_alloc.proofs.Refusals.{refused_later, refused_here, refused_nowhere}
