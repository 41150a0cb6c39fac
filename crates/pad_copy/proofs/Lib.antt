-- Laws of an axis whose rims are copied.
pub mod FewBlocks
pub mod CopiedAxis
