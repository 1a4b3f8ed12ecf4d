mod ModuleMemories
mod Sent
