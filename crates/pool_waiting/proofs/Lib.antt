mod Waited
